-- The worked cases of the rules, as facts about the definitions.
use Rattle.std.specs.Prelude.{◌≡◌, ℕ, List, [], ◌∷◌, Some, None, Option}
use Rattle.game.specs.declared.side.Side.{Side}
use Rattle.game.specs.declared.side.Side.TheVariants.{Green, Red}
use Rattle.game.specs.Positions.{Position}
use Rattle.game.specs.Sheets.{entry_of}
use Rattle.game.specs.Refusals.{Refused, refused_at}
use Rattle.game.specs.Checking.{checked}
use Rattle.combine.specs.Join.{joined}
use Rattle.rounds.specs.Rounds.{colouring}
use Rattle.games.specs.declared.row.Row.{Row}
use Rattle.games.specs.Rows.{meaning_of, rows_refusal}

-- One row: Green's, level 0, kind Red, moving to itself.
abbrev pub one_row : List Row
one_row = record { owner = 0; level = 0; kind = 1; first = 0; count = 1 } ∷ []

-- The list of targets: the row itself.
abbrev pub one_target : List ℕ
one_target = 0 ∷ []

-- What the check answers for a sheet of one entry.
abbrev pub one_entry : ℕ → ℕ → ℕ → Option Refused
one_entry c m r = checked (meaning_of one_row one_target) (record { colour = c; choice = m; rank = r } ∷ [])

-- One position without moves, of kind Green and of a given owner: the other side wins there.
abbrev pub stuck : Side → List Position
stuck owner = record { owner = owner; level = 0; kind = Green; moves = [] } ∷ []

-- The head's colour in the colouring of a pair of one that Green wins and one that Red wins.
abbrev pub head_colour : Side → ℕ
head_colour owner = (entry_of (colouring (joined owner (stuck Red) 0 (stuck Green) 0)) 0).colour

-- A Green head is Green, a Red head is Red.
pub record PairCase : Type 0 where
  pub green : head_colour Green ≡ 0
  pub red : head_colour Red ≡ 1

-- Red wins there, since Green can only go round; a sheet that gives it to Green fails by its ranks.
pub record OneRowCase : Type 0 where
  pub made : rows_refusal one_row one_target ≡ None
  pub red_wins : one_entry 1 0 0 ≡ None
  pub no_fall : one_entry 0 0 5 ≡ Some (refused_at 0 25)
  pub no_rank : one_entry 0 0 0 ≡ Some (refused_at 0 24)
