-- The plain play: the list of the positions entered, in order, at first the start alone. All else is read off it.
use Rattle.std.specs.Prelude.{◌≡◌, ℕ, ◌-◌, Bool, true, false, cond, List, [], ◌∷◌, ◌++◌, length, drop, Some, None, Ok, Err, count_by, Option, Result, ◌==◌, nat_lt}
use Rattle.std.specs.Option.{unwrap_or}
use Rattle.game.specs.declared.side.Side.{Side}
use Rattle.game.specs.declared.side.Side.TheVariants.{Green}
use Rattle.game.specs.declared.sheet.Entry.{Entry}
use Rattle.game.specs.Sides.{opposite, side_of, same}
use Rattle.game.specs.Positions.{Position, position, degree, target}
use Rattle.game.specs.Winning.{place}
use Rattle.game.specs.Sheets.{entry_of}
use Rattle.game.specs.Refusals.{Refused, refused}
use Rattle.game.specs.First.{unless}
use Rattle.plain.specs.declared.call.Call.{Call}
use Rattle.plain.specs.declared.call.Call.TheVariants.{Go, Reply}
use Rattle.plain.specs.declared.standing.Turn.{Turn}
use Rattle.plain.specs.declared.standing.Turn.TheVariants as turn
use Rattle.plain.specs.declared.standing.Record.{Record}
use Rattle.plain.specs.declared.standing.Standing.{Standing}

-- The most steps of a play.
abbrev pub most_steps : ℕ
most_steps = 65535

-- A play stands at the last position that it entered.
abbrev pub stands_at : List ℕ → ℕ
stands_at run = place run (length run - 1)

-- Each position but the start was entered by a step.
abbrev pub steps_of : List ℕ → ℕ
steps_of run = length run - 1

-- How many steps entered a position of side c's kind. The start is not counted.
abbrev pub entered_of : List Position → Side → List ℕ → ℕ
entered_of ps c run = count_by (λ u. same c (position ps u).kind) (drop 1 run)

-- The record of a play with a given house: the guest is the other side.
abbrev pub record_of : List Position → Side → List ℕ → Record
record_of ps house run = record { house = house; position = stands_at run; steps = steps_of run; entered = entered_of ps (opposite house) run }

-- Whose turn it is at position v: nobody's where there are no moves, so that the play has ended; else the owner's.
abbrev pub turn_at : List Position → Side → ℕ → Turn
turn_at ps house v = cond (degree ps v == 0) turn.Ended (cond (same house (position ps v).owner) turn.House turn.Guest)

-- How a play with a given record stands.
abbrev pub standing : List Position → Record → Standing
standing ps r = record { turn = turn_at ps r.house r.position; log = r }

-- The outcome of a play.
abbrev pub standing_of : List Position → Side → List ℕ → Standing
standing_of ps house run = standing ps (record_of ps house run)

-- Side c has lost a play: it has ended, at a position of c's.
pub record HasLost (ps : List Position) (house : Side) (run : List ℕ) (c : Side) : Type 0 where
  pub ended : (standing_of ps house run).turn ≡ turn.Ended
  pub owner : (position ps (stands_at run)).owner ≡ c

-- Which calls come on a turn: go on the house's, reply on the guest's, neither where the play has ended.
abbrev pub comes : Turn → Call → Bool
comes turn.House Go = true
comes turn.House (Reply k) = false
comes turn.Guest Go = false
comes turn.Guest (Reply k) = true
comes turn.Ended Go = false
comes turn.Ended (Reply k) = false

-- The move that a call makes from position v: go the sheet's choice, reply k move k.
abbrev pub move_of : List Entry → ℕ → Call → ℕ
move_of es v Go = (entry_of es v).choice
move_of es v (Reply k) = k

-- Why a play refuses a call. Go: 33 where the choice is no move, then 35 where the most steps were made. Reply: 35, then 34 where there is no such move.
abbrev pub refusal_of : List Position → List Entry → List ℕ → Call → Option Refused
refusal_of ps es run Go = unless (nat_lt (entry_of es (stands_at run)).choice (degree ps (stands_at run))) (refused 33) (unless (nat_lt (steps_of run) most_steps) (refused 35) None)
refusal_of ps es run (Reply k) = unless (nat_lt (steps_of run) most_steps) (refused 35) (unless (nat_lt k (degree ps (stands_at run))) (refused 34) None)

-- A play that enters w unless the call is refused.
abbrev pub entering : Option Refused → List ℕ → ℕ → List ℕ
entering None run w = run ++ (w ∷ [])
entering (Some r) run w = run

-- The play after a call: a refused call adds nothing, any other adds the target of its move.
abbrev pub after_call : List Position → List Entry → List ℕ → Call → List ℕ
after_call ps es run call = entering (refusal_of ps es run call) run (target ps (stands_at run) (move_of es (stands_at run) call))

-- A refusal, or else the next outcome.
abbrev pub answered : Option Refused → Standing → Result Standing Refused
answered None next = Ok next
answered (Some r) next = Err r

-- The answer to a call: its refusal, or the outcome of the play after it.
abbrev pub answer_of : List Position → List Entry → Side → List ℕ → Call → Result Standing Refused
answer_of ps es house run call = answered (refusal_of ps es run call) (standing_of ps house (after_call ps es run call))

-- The answers to a list of calls, one after another, up to the first that does not come on the turn at hand.
unfoldable pub answers_of : List Position → List Entry → Side → List ℕ → List Call → List (Result Standing Refused)
answers_of ps es house run [] = []
answers_of ps es house run (call ∷ calls) = cond (comes (standing_of ps house run).turn call) (answer_of ps es house run call ∷ answers_of ps es house (after_call ps es run call) calls) []

-- The play after that list of calls.
unfoldable pub after_calls : List Position → List Entry → Side → List ℕ → List Call → List ℕ
after_calls ps es house run [] = run
after_calls ps es house run (call ∷ calls) = cond (comes (standing_of ps house run).turn call) (after_calls ps es house (after_call ps es run call) calls) run

-- The house: the side of the sheet's colour at the start. An accepted sheet has a side's colour there; for any other number it is Green.
abbrev pub house_of : List Entry → ℕ → Side
house_of es start = unwrap_or (side_of (entry_of es start).colour) Green

-- The plain play of a game, a sheet and a start: its first outcome.
abbrev pub plain_first : List Position → List Entry → ℕ → Standing
plain_first ps es start = standing_of ps (house_of es start) (start ∷ [])

-- Its answers to a list of calls.
abbrev pub plain_answers : List Position → List Entry → ℕ → List Call → List (Result Standing Refused)
plain_answers ps es start calls = answers_of ps es (house_of es start) (start ∷ []) calls

-- The positions that it has entered after them.
abbrev pub plain_run : List Position → List Entry → ℕ → List Call → List ℕ
plain_run ps es start calls = after_calls ps es (house_of es start) (start ∷ []) calls

-- Its record then.
abbrev pub plain_record : List Position → List Entry → ℕ → List Call → Record
plain_record ps es start calls = record_of ps (house_of es start) (plain_run ps es start calls)
