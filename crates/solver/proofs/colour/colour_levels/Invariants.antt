use Rattle.std.proofs.Common.{◌≡◌, ◌+◌, ◌-◌}
use Rattle.rounds.specs.Below.{sum_below}
use Rattle.rounds.specs.Rounds.{rounds_at, rounds_of}
use Rattle.solver.specs.Stages.{DoneFrom}
use Rattle.solver.proofs.colour.colour_levels.Given as goal

abbrev pub invariant-loop-done : goal.invariant-loop-done
invariant-loop-done g l = let ps = g.G.Game.meaning l.game in DoneFrom ps (l.count - l.done) l.sheet × (l.rounds + sum_below (rounds_at ps) (l.count - l.done) ≡ rounds_of ps)
