-- How the two lists of a game are written as numbers.
use Rattle.std.specs.Prelude.{◌≡◌, ℕ, ◌+◌, ◌*◌, List, [], ◌∷◌, ◌++◌, length, Some}
use Rattle.std.specs.List.{flat_map}
use Rattle.games.specs.declared.row.Row.{Row}
use Rattle.games.specs.declared.row.RowsFault.{RowsFault}
use Rattle.games.specs.Rows.{rows_refusal, tells}
use Rattle.cases.specs.declared.fault.CaseFault.{CaseFault}
use Rattle.cases.specs.declared.fault.CaseFault.TheVariants.{NoGame}

-- The five numbers of a row.
abbrev pub numbers_of : Row → List ℕ
numbers_of row = row.owner ∷ row.level ∷ row.kind ∷ row.first ∷ row.count ∷ []

-- How many rows and how many targets there are, the rows' numbers, and the targets.
abbrev pub numbers_of_lists : List Row → List ℕ → List ℕ
numbers_of_lists rows targets = length rows ∷ length targets ∷ (flat_map numbers_of rows ++ targets)

-- How many numbers the two lists take up that begin a list of numbers: the two counts, five for each row and one for each target.
abbrev pub length_of_lists : List ℕ → ℕ
length_of_lists [] = 2
length_of_lists (r ∷ []) = 2
length_of_lists (r ∷ t ∷ rest) = 2 + 5 * r + t

-- The numbers begin with two lists that make no game, with these numbers left after them, and that is the fault told.
pub record MakeNoGame (numbers left : List ℕ) (e : CaseFault) : Type 0 where
  pub rows : List Row
  pub targets : List ℕ
  pub fault : RowsFault
  pub begun : numbers ≡ numbers_of_lists rows targets ++ left
  pub refused : rows_refusal rows targets ≡ Some (tells fault)
  pub told : e ≡ NoGame fault
