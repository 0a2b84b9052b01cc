-- What the answers of the calls tell.
use Rattle.std.specs.Prelude.{ℕ, List, ◌++◌, Result, codes}
use Rattle.std.specs.Result.{result_map_both}
use Rattle.game.specs.declared.refusal.GivenBack.{GivenBack}
use Rattle.game.specs.Refusals.{Refused, refused, tells, refusal_text}
use Rattle.plain.specs.declared.standing.Turn.TheVariants as turn
use Rattle.plain.specs.declared.standing.Standing.{Standing}
use Rattle.plain.specs.Calls.{sheet_refused}
use Rattle.play.specs.declared.refusal.SetOutRefusal.{SetOutRefusal}
use Rattle.play.specs.declared.refusal.SetOutRefusal.TheVariants.{Start, Sheet}
use Rattle.play.specs.declared.refusal.CallRefusal.{CallRefusal}
use Rattle.play.specs.declared.refusal.CallRefusal.TheVariants.{Mismatch, Steps, Move}
use Rattle.play.specs.declared.refusal.CallsRefusal.{CallsRefusal}
use Rattle.play.specs.declared.refusal.CallsRefusal.TheVariants.{Answers, SetOut}
use Rattle.play.specs.declared.turn.Outcome.{Outcome}
use Rattle.play.specs.declared.turn.Outcome.TheVariants.{House, Guest, Ended}

-- Why no play is set out: 31, or 32 with the number and the values of the check's own refusal.
abbrev pub set_out_tells : SetOutRefusal → Refused
set_out_tells Start = refused 31
set_out_tells (Sheet r) = sheet_refused (tells r)

-- Why a call is refused: 33, 35 or 34, with no value.
abbrev pub call_tells : CallRefusal → Refused
call_tells Mismatch = refused 33
call_tells Steps = refused 35
call_tells Move = refused 34

-- Why a list of calls is not played: no rule has a number for a list of answers of another length, so it is 0; else as setting out.
abbrev pub calls_tells : CallsRefusal → Refused
calls_tells Answers = refused 0
calls_tells (SetOut r) = set_out_tells r

-- How it is printed that no play is set out: by its number, and where the check refuses the sheet, how that refusal is printed too.
abbrev pub set_out_text : SetOutRefusal → List ℕ
set_out_text Start = refusal_text (refused 31)
set_out_text (Sheet r) = refusal_text (refused 32) ++ (codes ": " ++ refusal_text (tells r))

-- How it is printed that a list of calls is not played: by the number 0, else as for setting out.
abbrev pub calls_text : CallsRefusal → List ℕ
calls_text Answers = refusal_text (refused 0)
calls_text (SetOut r) = set_out_text r

-- What an outcome tells: whose turn it is, and the record so far.
abbrev pub outcome_tells : Outcome → Standing
outcome_tells (House t) = record { turn = turn.House; log = t.log }
outcome_tells (Guest t) = record { turn = turn.Guest; log = t.log }
outcome_tells (Ended t) = record { turn = turn.Ended; log = t.log }

-- What setting out answers.
abbrev pub set_out_told : Result Outcome SetOutRefusal → Result Standing Refused
set_out_told r = result_map_both outcome_tells set_out_tells r

-- What a call on a turn answers.
abbrev pub call_told : {T : Type 0} → Result Outcome (GivenBack CallRefusal T) → Result Standing Refused
call_told r = result_map_both outcome_tells (λ e. call_tells e.refusal) r

-- What an answer to a call of a list tells.
abbrev pub answer_told : Result Standing CallRefusal → Result Standing Refused
answer_told r = result_map_both (λ next. next) call_tells r
