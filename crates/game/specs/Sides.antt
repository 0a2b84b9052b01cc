-- The two sides.
use Rattle.std.specs.Prelude.{ℕ, Bool, true, false, cond, Some, None, Option, Result, ◌==◌}
use Rattle.std.specs.Option.{ok_or}
use Rattle.game.specs.declared.side.Side.{Side}
use Rattle.game.specs.declared.side.Side.TheVariants.{Green, Red}
use Rattle.game.specs.declared.side.NoSide.{NoSide}

-- The side that plays against a side.
abbrev pub opposite : Side → Side
opposite Green = Red
opposite Red = Green

-- The number that a sheet writes for a side.
abbrev pub number_of : Side → ℕ
number_of Green = 0
number_of Red = 1

-- The side that a number stands for, if it stands for one.
abbrev pub side_of : ℕ → Option Side
side_of n = cond (n == 0) (Some Green) (cond (n == 1) (Some Red) None)

-- What asking for the side of a number answers: that side, or the number where it stands for none.
abbrev pub side_from : ℕ → Result Side NoSide
side_from n = ok_or (side_of n) (record { 0 = n })

-- Whether two sides are the same.
abbrev pub same : Side → Side → Bool
same Green Green = true
same Green Red = false
same Red Green = false
same Red Red = true
