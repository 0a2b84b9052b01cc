-- What a refusal tells.
use Rattle.std.specs.Prelude.{ℕ, List, [], ◌∷◌, ◌++◌, Option, Result, codes, decimal}
use Rattle.std.specs.Option.{option_map}
use Rattle.std.specs.Result.{result_err}
use Rattle.game.specs.declared.refusal.Refusal.{Refusal}
use Rattle.game.specs.declared.refusal.Refusal.TheVariants.{Length, Colour, Choice, Move, Rank, Fall}

-- The number of a refusal, and the values that it carries, in order.
pub record Refused : Type 0 where
  pub number : ℕ
  pub values : List ℕ

-- Refusal n with no value.
abbrev pub refused : ℕ → Refused
refused n = record { number = n; values = [] }

-- Refusal n with one value.
abbrev pub refused_at : ℕ → ℕ → Refused
refused_at v n = record { number = n; values = v ∷ [] }

-- The check's refusals: 11 for the length, else the number of the broken rule, with the position.
abbrev pub tells : Refusal → Refused
tells Length = refused 11
tells (Colour v) = refused_at v 21
tells (Choice v) = refused_at v 22
tells (Move v) = refused_at v 23
tells (Rank v) = refused_at v 24
tells (Fall v) = refused_at v 25

-- How the values of a refusal are printed: the first one as a position, if there is one.
abbrev pub place_text : List ℕ → List ℕ
place_text [] = []
place_text (v ∷ rest) = codes " at position " ++ decimal v

-- How a refusal is printed: its number, then its position if it has one.
abbrev pub refusal_text : Refused → List ℕ
refusal_text r = codes "refused " ++ (decimal r.number ++ place_text r.values)

-- What a result tells, by what each error tells: nothing where it is no error.
abbrev pub told : {T E : Type 0} → (E → Refused) → Result T E → Option Refused
told tell r = option_map tell (result_err r)
