-- What the calls of a play answer, for every game, every sheet and every turn. A turn is told by its record.
use Rattle.std.specs.Prelude.{ℕ, ◌+◌, Bool, cond, ◌&&◌, List, [], ◌∷◌, length, None, Ok, Err, Option, Result, ◌==◌, nat_lt}
use Rattle.std.specs.Option.{option_map}
use Rattle.game.specs.declared.side.Side.{Side}
use Rattle.game.specs.declared.sheet.Entry.{Entry}
use Rattle.game.specs.Sides.{opposite, same}
use Rattle.game.specs.Positions.{Position, position, degree, target}
use Rattle.game.specs.Sheets.{entry_of}
use Rattle.game.specs.Refusals.{Refused, refused}
use Rattle.game.specs.First.{unless}
use Rattle.game.specs.Checking.{checked}
use Rattle.plain.specs.declared.call.Call.{Call}
use Rattle.plain.specs.declared.call.Call.TheVariants.{Go, Reply}
use Rattle.plain.specs.declared.standing.Record.{Record}
use Rattle.plain.specs.declared.standing.Standing.{Standing}
use Rattle.plain.specs.Plain.{most_steps, standing, comes, move_of, answered, plain_first}

-- 32 carries the check's own refusal: its number, then its values.
abbrev pub sheet_refused : Refused → Refused
sheet_refused r = record { number = 32; values = r.number ∷ r.values }

-- Why no play is set out: 31 where the start is not in the game, then 32 where the check refuses the sheet.
abbrev pub set_out_refusal : List Position → List Entry → ℕ → Option Refused
set_out_refusal ps es start = unless (nat_lt start (length ps)) (refused 31) (option_map sheet_refused (checked ps es))

-- What set out answers: its refusal, or the first outcome.
abbrev pub set_out_of : List Position → List Entry → ℕ → Result Standing Refused
set_out_of ps es start = answered (set_out_refusal ps es start) (plain_first ps es start)

-- A turn of side c's at v fits a game and a sheet: there are as many entries as positions, v is there, and c owns it.
abbrev pub fits_turn : List Position → List Entry → Side → ℕ → Bool
fits_turn ps es c v = length es == length ps && (nat_lt v (length ps) && same c (position ps v).owner)

-- Why a call is refused on a turn with record r. Go on the house's: 33 where the turn does not fit or the choice is no move, then 35 where the most steps were made. Reply on the guest's: 33 where the turn does not fit, then 35, then 34 where there is no such move.
abbrev pub call_refusal : List Position → List Entry → Record → Call → Option Refused
call_refusal ps es r Go = unless (fits_turn ps es r.house r.position && nat_lt (entry_of es r.position).choice (degree ps r.position)) (refused 33) (unless (nat_lt r.steps most_steps) (refused 35) None)
call_refusal ps es r (Reply k) = unless (fits_turn ps es (opposite r.house) r.position) (refused 33) (unless (nat_lt r.steps most_steps) (refused 35) (unless (nat_lt k (degree ps r.position)) (refused 34) None))

-- The record one step on, at w.
abbrev pub step_to : List Position → Record → ℕ → Record
step_to ps r w = record { house = r.house; position = w; steps = r.steps + 1; entered = r.entered + cond (same (opposite r.house) (position ps w).kind) 1 0 }

-- What a call answers on a turn with record r: its refusal, or how the play stands at the target of its move.
abbrev pub call_of : List Position → List Entry → Record → Call → Result Standing Refused
call_of ps es r call = answered (call_refusal ps es r call) (standing ps (step_to ps r (target ps r.position (move_of es r.position call))))

-- How a play stands after an answer: a refusal gives the same turn back.
abbrev pub next_of : Standing → Result Standing Refused → Standing
next_of s (Ok next) = next
next_of s (Err r) = s

-- What a list of calls answers, each made on the turn that the one before gave, up to the first that does not come on the turn at hand.
unfoldable pub answers_from : List Position → List Entry → Standing → List Call → List (Result Standing Refused)
answers_from ps es s [] = []
answers_from ps es s (call ∷ calls) = cond (comes s.turn call) (call_of ps es s.log call ∷ answers_from ps es (next_of s (call_of ps es s.log call)) calls) []

-- How the play stands after that list of calls.
unfoldable pub standing_after : List Position → List Entry → Standing → List Call → Standing
standing_after ps es s [] = s
standing_after ps es s (call ∷ calls) = cond (comes s.turn call) (standing_after ps es (next_of s (call_of ps es s.log call)) calls) s
