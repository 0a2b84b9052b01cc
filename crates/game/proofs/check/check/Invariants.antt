use Rattle.std.proofs.Common.{◌≡◌, None}
use Rattle.game.specs.First.{first_below}
use Rattle.game.specs.Checking.{refused_by}
use Rattle.game.proofs.check.check.Given as goal

abbrev pub invariant-loop-v : goal.invariant-loop-v
invariant-loop-v g l = first_below (refused_by (g.G.Game.meaning l.game) l.sheet) l.v ≡ None
