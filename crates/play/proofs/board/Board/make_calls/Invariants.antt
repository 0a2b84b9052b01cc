use Rattle.play.specs.Told.{outcome_tells}
use Rattle.play.proofs.Progress.{Progress}
use Rattle.play.proofs.board.Board.make_calls.Given as goal

abbrev pub invariant-loop-i : goal.invariant-loop-i
invariant-loop-i g l = Progress (g.G.Game.meaning l.self.game.now) l.self.sheet.now (outcome_tells l.initial.outcome) l.calls l.initial.answers l.i (outcome_tells l.outcome) l.answers
