-- What taking a side from the front of a list of numbers gives, and what it leaves.
use Rattle.std.specs.Prelude.{ℕ, List, [], ◌∷◌, Err}
use Rattle.std.specs.Option.{ok_or}
use Rattle.std.specs.declared.result.Result.{Result}
use Rattle.game.specs.Sides.{side_of}
use Rattle.game.specs.declared.side.Side.{Side}
use Rattle.cases.specs.declared.fault.CaseFault.{CaseFault}
use Rattle.cases.specs.declared.fault.CaseFault.TheVariants.{Ended, NoSide}

-- The side that the first number stands for, or the fault that it stands for none, and the numbers after it;
-- of an empty list, the fault that it has ended, and no numbers.
abbrev pub side_taken : List ℕ → Result Side CaseFault × List ℕ
side_taken [] = (Err Ended, [])
side_taken (n ∷ rest) = (ok_or (side_of n) (NoSide n), rest)
