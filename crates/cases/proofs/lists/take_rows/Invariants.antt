use Rattle.std.proofs.Common.{◌≡◌, ◌+◌, ◌*◌, ◌++◌, length}
use Rattle.std.specs.List.{flat_map}
use Rattle.cases.specs.Lists.{numbers_of}
use Rattle.cases.proofs.lists.take_rows.Given as goal

abbrev pub invariant-loop : goal.invariant-loop
invariant-loop l = (length l.rows.items ≡ l.counter) × (l.initial.numbers ≡ flat_map numbers_of l.rows.items ++ l.numbers) × (length l.initial.numbers ≡ 5 * l.counter + length l.numbers)
