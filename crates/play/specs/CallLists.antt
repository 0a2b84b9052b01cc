-- What a list of calls answers, played from a start into a list of answers.
use Rattle.std.specs.Prelude.{◌≡◌, ℕ, List, map, length, take, drop, Option, Result, ◌==◌}
use Rattle.game.specs.declared.sheet.Entry.{Entry}
use Rattle.game.specs.Positions.{Position}
use Rattle.game.specs.Refusals.{Refused, refused}
use Rattle.game.specs.First.{unless}
use Rattle.plain.specs.declared.call.Call.{Call}
use Rattle.plain.specs.declared.standing.Standing.{Standing}
use Rattle.plain.specs.Plain.{plain_first, plain_answers, plain_record}
use Rattle.plain.specs.Calls.{set_out_refusal}
use Rattle.play.specs.declared.calls.CallsPlayed.{CallsPlayed}
use Rattle.play.specs.declared.refusal.CallRefusal.{CallRefusal}
use Rattle.play.specs.Told.{answer_told}

-- Why nothing is played: the list of answers does not have exactly one place for each call, then as for setting out.
abbrev pub calls_refusal : List Position → List Entry → ℕ → List Call → ℕ → Option Refused
calls_refusal ps es start calls places = unless (places == length calls) (refused 0) (set_out_refusal ps es start)

-- What the calls come to: the first outcome of the plain play, how many calls come before the first that the turn does not allow, and the record at the end.
abbrev pub played_by : List Position → List Entry → ℕ → List Call → CallsPlayed
played_by ps es start calls = record { first = plain_first ps es start; made = length (plain_answers ps es start calls); at_end = plain_record ps es start calls }

-- The list of answers holds these answers first, and beyond them what it held before.
pub record Written (answers : List (Result Standing Refused)) (before after : List (Result Standing CallRefusal)) : Type 0 where
  pub answered : map answer_told (take (length answers) after) ≡ answers
  pub beyond : drop (length answers) after ≡ drop (length answers) before
