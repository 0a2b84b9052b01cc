-- The game with the sides exchanged.
use Rattle.std.specs.Prelude.{◌≡◌, ℕ, ◌<◌, List, map, length, None}
use Rattle.game.specs.declared.side.Side.{Side}
use Rattle.game.specs.declared.sheet.Entry.{Entry}
use Rattle.game.specs.Sides.{opposite}
use Rattle.game.specs.Positions.{Position}
use Rattle.game.specs.Sheets.{Coloured}
use Rattle.game.specs.Checking.{checked}

-- A position with the sides exchanged, in owner and kind alone.
abbrev pub exchanged_position : Position → Position
exchanged_position q = record { owner = opposite q.owner; level = q.level; kind = opposite q.kind; moves = q.moves }

-- The game with the sides exchanged at each position.
abbrev pub exchanged : List Position → List Position
exchanged ps = map exchanged_position ps

-- On accepted sheets of a game and of the exchanged game each position has opposite colours.
abbrev pub ColoursExchanged : List Position → Type 0
ColoursExchanged ps = (es fs : List Entry) → checked ps es ≡ None → checked (exchanged ps) fs ≡ None → (v : ℕ) → v < length ps → (c : Side) → Coloured es v c → Coloured fs v (opposite c)
