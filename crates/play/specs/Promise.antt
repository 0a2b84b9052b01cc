-- The whole promise, of every list of positions that has the bounds and keeps the laws: of games of every make, since such a list is what each of them means.
use Rattle.std.specs.Prelude.{◌≡◌, ℕ, List, length, None}
use Rattle.game.specs.declared.side.Side.{Side}
use Rattle.game.specs.declared.sheet.Entry.{Entry}
use Rattle.game.specs.Positions.{Position}
use Rattle.game.specs.Laws.{Lawful}
use Rattle.game.specs.Sheets.{Settles}
use Rattle.game.specs.Checking.{checked, AcceptsKeeping, UniqueColours}
use Rattle.combine.specs.Exchange.{exchanged, ColoursExchanged}
use Rattle.combine.specs.Join.{joined, join_refusal, ColoursJoined}
use Rattle.rounds.specs.Rounds.{colouring, filled_sheet}
use Rattle.rounds.specs.Ruled.{RuledByRounds}
use Rattle.plain.specs.PlayPromise.{PlaysAsPromised}

-- Who wins: on a sheet that the check accepts a position has a side's colour exactly when that side wins from there, and every other accepted sheet has the same colours.
pub record ColoursTellWinners (ps : List Position) : Type 0 where
  pub settles : (es : List Entry) → checked ps es ≡ None → Settles ps es
  pub unique : (es : List Entry) → checked ps es ≡ None → UniqueColours ps es

-- Which sheets are accepted: exactly those that keep the rules. Among them is the colouring's, which is the one that the rounds rule, and which the colouring fills in on every list of the right length.
pub record RightSheetsAccepted (ps : List Position) : Type 0 where
  pub keeping : (es : List Entry) → AcceptsKeeping ps es (checked ps es)
  pub filled_in : (es : List Entry) → length es ≡ length ps → filled_sheet ps es ≡ colouring ps
  pub ruled : RuledByRounds ps (colouring ps)
  pub accepted : checked ps (colouring ps) ≡ None

-- The swapped game is a game, so that it has accepted sheets, and they have every colour exchanged.
pub record SwappedExchanges (ps : List Position) : Type 0 where
  pub lawful : Lawful (exchanged ps)
  pub colours : ColoursExchanged ps

-- A pair of two games is a game, so that it has accepted sheets; they have its parts' colours, and at the head the owner's exactly when a position that it leads to has it.
pub record PairJoins (owner : Side) (xs : List Position) (p : ℕ) (ys : List Position) (q : ℕ) : Type 0 where
  pub lawful : Lawful (joined owner xs p ys q)
  pub colours : ColoursJoined owner xs p ys q

-- All of it. Of plays: set out, go, reply and end answer what the plain play says, 33 never comes, the house loses no play, and no position of the guest's kind is entered twice.
pub record Promise : Type 0 where
  pub winners : (ps : List Position) → Lawful ps → ColoursTellWinners ps
  pub sheets : (ps : List Position) → Lawful ps → RightSheetsAccepted ps
  pub swapped : (ps : List Position) → Lawful ps → SwappedExchanges ps
  pub paired : (owner : Side) (xs : List Position) (p : ℕ) (ys : List Position) (q : ℕ) → Lawful xs → Lawful ys → join_refusal (length xs) p (length ys) q ≡ None → PairJoins owner xs p ys q
  pub plays : (ps : List Position) → Lawful ps → PlaysAsPromised ps
