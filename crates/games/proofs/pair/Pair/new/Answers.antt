use Rattle.std.proofs.Common.{sym}
use Rattle.combine.proofs.Pairings.{unrefused_colours}
use Rattle.games.proofs.pair.Pair.new.Goals as goal

pub returns-in-Ok-clause-colours : goal.returns-in-Ok-clause-colours
returns-in-Ok-clause-colours g c =
    unrefused_colours c.args.owner _ c.args.p _ c.args.q (sym c.in-Ok.ensures) (g.met.A.Game.lawful c.args.first) (g.met.B.Game.lawful c.args.second)
