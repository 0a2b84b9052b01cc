-- A sheet, read by position.
use Rattle.std.specs.Prelude.{◌≡◌, ℕ, ◌<◌, List, length, slice_index_or}
use Rattle.game.specs.declared.side.Side.{Side}
use Rattle.game.specs.declared.sheet.Entry.{Entry}
use Rattle.game.specs.Sides.{number_of}
use Rattle.game.specs.Positions.{Position}
use Rattle.game.specs.Winning.{Wins}

-- What is read past the end of a sheet.
abbrev pub blank_entry : Entry
blank_entry = record { colour = 0; choice = 0; rank = 0 }

-- The entry of position v.
abbrev pub entry_of : List Entry → ℕ → Entry
entry_of es v = slice_index_or es v blank_entry

-- The entry of v has the colour of side c.
abbrev pub Coloured : List Entry → ℕ → Side → Type 0
Coloured es v c = (entry_of es v).colour ≡ number_of c

-- The sheet is right about who wins: at each position the entry has a side's colour exactly when that side wins from there.
pub record Settles (ps : List Position) (es : List Entry) : Type 0 where
  pub wins : (v : ℕ) → v < length ps → (c : Side) → Coloured es v c → Wins ps c v
  pub coloured : (v : ℕ) (c : Side) → Wins ps c v → Coloured es v c

-- Two sheets have the same colours at the positions of a game.
abbrev pub SameColours : List Position → List Entry → List Entry → Type 0
SameColours ps es fs = (v : ℕ) → v < length ps → (entry_of es v).colour ≡ (entry_of fs v).colour
