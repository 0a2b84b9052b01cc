-- What is promised of plays.
use Rattle.std.specs.Prelude.{◌≡◌, ℕ, ◌<◌, List, length, IfErr, None, Ok, ◌≢◌}
use Rattle.std.specs.List.{AllByRecursion}
use Rattle.game.specs.declared.sheet.Entry.{Entry}
use Rattle.game.specs.Positions.{Position}
use Rattle.game.specs.Winning.{Run, Follows, Good}
use Rattle.game.specs.Sheets.{entry_of}
use Rattle.game.specs.Checking.{checked}
use Rattle.plain.specs.declared.call.Call.{Call}
use Rattle.plain.specs.Plain.{HasLost, house_of, plain_first, plain_answers, plain_run, plain_record}
use Rattle.plain.specs.Calls.{set_out_of, answers_from, standing_after}

-- The calls answer what the plain play says: set out gives its first outcome and refuses nothing, each call of a list gives its refusal or next outcome, and end gives its record.
pub record AnswersPlainly (ps : List Position) (es : List Entry) (start : ℕ) (calls : List Call) : Type 0 where
  pub first : set_out_of ps es start ≡ Ok (plain_first ps es start)
  pub answers : answers_from ps es (plain_first ps es start) calls ≡ plain_answers ps es start calls
  pub at_end : (standing_after ps es (plain_first ps es start) calls).log ≡ plain_record ps es start calls

-- The house never loses: no call is refused 33; the positions entered are a run from the start that follows the sheet's choices for the house, and the run is good for the house, so that no position of the guest's kind is entered twice; and the house has not lost.
pub record HouseNeverLoses (ps : List Position) (es : List Entry) (start : ℕ) (calls : List Call) : Type 0 where
  pub never_33 : AllByRecursion (λ answer. IfErr answer (λ r. r.number ≢ 33)) (plain_answers ps es start calls)
  pub run : Run ps start (plain_run ps es start calls)
  pub follows : Follows ps (house_of es start) (λ u. (entry_of es u).choice) (plain_run ps es start calls)
  pub good : Good ps (house_of es start) (plain_run ps es start calls)
  pub not_lost : HasLost ps (house_of es start) (plain_run ps es start calls) (house_of es start) → ⊥

-- Both.
pub record PlayAsPromised (ps : List Position) (es : List Entry) (start : ℕ) (calls : List Call) : Type 0 where
  pub plainly : AnswersPlainly ps es start calls
  pub house : HouseNeverLoses ps es start calls

-- On every accepted sheet, from every start in the game, for every list of calls.
abbrev pub PlaysAsPromised : List Position → Type 0
PlaysAsPromised ps = (es : List Entry) → checked ps es ≡ None → (start : ℕ) → start < length ps → (calls : List Call) → PlayAsPromised ps es start calls
