use Rattle.std.proofs.Common.{◌≡◌, None}
use Rattle.game.specs.First.{first_below}
use Rattle.games.specs.Rows.{row_refusal}
use Rattle.games.proofs.row_rules.rows_fault.Given as goal

abbrev pub invariant-loop-i : goal.invariant-loop-i
invariant-loop-i l = first_below (row_refusal l.rows l.targets) l.i ≡ None
