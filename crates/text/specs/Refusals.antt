-- What a refusal of a text tells.
use Rattle.std.specs.Prelude.{ℕ, List, ◌++◌, codes, Option, Result}
use Rattle.std.specs.Fmt.{decimal}
use Rattle.std.specs.Option.{option_map}
use Rattle.std.specs.Result.{result_err}
use Rattle.text.specs.declared.place.Place.{Place}
use Rattle.text.specs.declared.place.Cause.{Cause}
use Rattle.text.specs.declared.place.Cause.TheVariants as cause
use Rattle.text.specs.declared.place.TextRefusal.{TextRefusal}

-- The number of a refusal, and the place that it carries.
pub record Refused : Type 0 where
  pub number : ℕ
  pub place : Place

-- Refusal n at a place.
abbrev pub refused_at : Place → ℕ → Refused
refused_at p n = record { number = n; place = p }

-- The number of each cause.
abbrev pub number_of : Cause → ℕ
number_of cause.Size = 40
number_of cause.Byte = 41
number_of cause.Number = 42
number_of cause.Word = 43
number_of cause.Line = 50
number_of cause.Depth = 51
number_of cause.Unknown = 52
number_of cause.Parts = 53
number_of cause.Due = 60
number_of cause.Range = 61
number_of cause.Room = 62

-- What a refusal tells.
abbrev pub tells : TextRefusal → Refused
tells r = refused_at r.place (number_of r.cause)

-- What a result tells: nothing where it is no refusal.
abbrev pub told : {T : Type 0} → Result T TextRefusal → Option Refused
told r = option_map tells (result_err r)

-- How a place is written.
abbrev pub place_text : Place → List ℕ
place_text p = codes "line " ++ decimal p.line ++ codes ", byte " ++ decimal p.offset

-- How a refusal is written: its number, and its place.
abbrev pub refusal_text : Refused → List ℕ
refusal_text r = codes "refused " ++ decimal r.number ++ codes " at " ++ place_text r.place
