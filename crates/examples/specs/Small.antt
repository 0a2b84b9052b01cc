-- The small game, and its right sheet.
use Rattle.std.specs.Prelude.{ℕ, List, [], ◌∷◌}
use Rattle.game.specs.declared.side.Side.TheVariants.{Green, Red}
use Rattle.game.specs.declared.sheet.Entry.{Entry}
use Rattle.game.specs.Positions.{Position}

-- Four positions. From 0 Green may go round with Red by way of 1, or leave for 2, where Red goes round alone; at 3 Green goes round alone.
abbrev pub small_positions : List Position
small_positions =
    record { owner = Green; level = 0; kind = Red; moves = 1 ∷ 2 ∷ [] }
    ∷ record { owner = Red; level = 0; kind = Red; moves = 0 ∷ [] }
    ∷ record { owner = Red; level = 1; kind = Green; moves = 2 ∷ [] }
    ∷ record { owner = Green; level = 1; kind = Red; moves = 3 ∷ [] }
    ∷ []

-- An entry of three numbers: colour, choice and rank.
abbrev pub entry_of_numbers : ℕ → ℕ → ℕ → Entry
entry_of_numbers c m r = record { colour = c; choice = m; rank = r }

-- Green wins from 0, by move 1, from 1 and from 2; Red wins from 3.
abbrev pub small_sheet : List Entry
small_sheet = entry_of_numbers 0 1 1 ∷ entry_of_numbers 0 0 2 ∷ entry_of_numbers 0 0 0 ∷ entry_of_numbers 1 0 0 ∷ []
