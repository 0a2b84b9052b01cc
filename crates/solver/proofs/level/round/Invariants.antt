use Rattle.std.proofs.Common.{◌≡◌, suc, false}
use Rattle.rounds.specs.Below.{any_below}
use Rattle.rounds.specs.Rounds.{takes_at}
use Rattle.solver.specs.Stages.{Stage, AllTaken}
use Rattle.solver.proofs.level.round.Given as goal

abbrev pub invariant-loop-v : goal.invariant-loop-v
invariant-loop-v g l =
    let ps = g.G.Game.meaning l.game in
    Stage ps l.level l.n l.v l.sheet × (l.taken ≡ any_below (takes_at ps l.level l.n) l.v) × (l.left ≡ false → AllTaken ps l.level (suc l.n) l.v)
