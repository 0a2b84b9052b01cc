-- What taking a number from the front of a list gives, and what it leaves.
use Rattle.std.specs.Prelude.{ℕ, List, [], ◌∷◌, Ok, Err}
use Rattle.std.specs.declared.result.Result.{Result}
use Rattle.cases.specs.declared.fault.CaseFault.{CaseFault}
use Rattle.cases.specs.declared.fault.CaseFault.TheVariants.{Ended}

-- The first number and the numbers after it; of an empty list, the fault that it has ended, and no numbers.
abbrev pub taken : List ℕ → Result ℕ CaseFault × List ℕ
taken [] = (Err Ended, [])
taken (n ∷ rest) = (Ok n, rest)
