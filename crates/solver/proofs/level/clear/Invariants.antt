use Rattle.std.proofs.Common.{◌≡◌, false}
use Rattle.solver.specs.Stages.{Cleared, AllTaken}
use Rattle.solver.proofs.level.clear.Given as goal

abbrev pub invariant-loop-v : goal.invariant-loop-v
invariant-loop-v g l =
    let ps = g.G.Game.meaning l.game in
    Cleared ps l.level l.v l.sheet × (l.left ≡ false → AllTaken ps l.level 0 l.v)
