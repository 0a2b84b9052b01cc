use Rattle.solver.specs.Stages.{Filled}
use Rattle.solver.proofs.colour.choose.Given as goal

abbrev pub invariant-loop-v : goal.invariant-loop-v
invariant-loop-v g l = Filled (g.G.Game.meaning l.game) l.v l.sheet
