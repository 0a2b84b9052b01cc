use Rattle.combine.proofs.Exchanges.{colours_exchanged}
use Rattle.games.proofs.swapped.Swapped.new.Goals as goal

pub returns-clause-colours : goal.returns-clause-colours
returns-clause-colours g c = colours_exchanged _ (g.met.G.Game.lawful c.args.game)
