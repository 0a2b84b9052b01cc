use Rattle.std.proofs.Common.{◌≡◌, ◌++◌, length}
use Rattle.cases.proofs.lists.take_targets.Given as goal

abbrev pub invariant-loop : goal.invariant-loop
invariant-loop l = (length l.targets.items ≡ l.counter) × (l.initial.numbers ≡ l.targets.items ++ l.numbers)
