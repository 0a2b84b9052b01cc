use Rattle.std.proofs.Common.{◌≡◌, false, length}
use Rattle.rounds.specs.Below.{count_below}
use Rattle.rounds.specs.Rounds.{adds}
use Rattle.solver.specs.Stages.{Stage, AllTaken}
use Rattle.solver.proofs.level.colour_level.Given as goal

abbrev pub invariant-loop-n : goal.invariant-loop-n
invariant-loop-n g l =
    let ps = g.G.Game.meaning l.game in
    Stage ps l.level l.n 0 l.sheet × (count_below (adds ps l.level) l.n ≡ l.n) × (l.left ≡ false → AllTaken ps l.level l.n (length ps))
