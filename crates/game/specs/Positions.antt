-- What a game is: the list of its positions, which is its meaning.
use Rattle.std.specs.Prelude.{◌≡◌, ℕ, ◌<◌, List, [], length, Option, slice_index, slice_index_or}
use Rattle.std.specs.Option.{option_map}
use Rattle.std.specs.List.{slice_get}
use Rattle.game.specs.declared.side.Side.{Side}
use Rattle.game.specs.declared.side.Side.TheVariants.{Green}

-- A position: the side that owns it and moves there, its level (priority), its kind (parity), and the positions that its moves lead to.
pub record Position : Type 0 where
  pub owner : Side
  pub level : ℕ
  pub kind : Side
  pub moves : List ℕ

-- What is read past the end of a game: a position without moves.
abbrev pub blank : Position
blank = record { owner = Green; level = 0; kind = Green; moves = [] }

-- The position with number u.
abbrev pub position : List Position → ℕ → Position
position ps u = slice_index_or ps u blank

-- How many moves position u has.
abbrev pub degree : List Position → ℕ → ℕ
degree ps u = length (position ps u).moves

-- Where move k of position u leads.
abbrev pub target : List Position → ℕ → ℕ → ℕ
target ps u k = slice_index (position ps u).moves k

-- Position u has a move k, and it leads to w.
pub record Leads (ps : List Position) (u k w : ℕ) : Type 0 where
  pub there : k < degree ps u
  pub to : target ps u k ≡ w

-- A game's answers: what the list holds, absent exactly where the position or the move is not there.
-- The owner of position u, if it is there.
abbrev pub owner_at : List Position → ℕ → Option Side
owner_at ps u = option_map (λ q. q.owner) (slice_get ps u)

-- Its level.
abbrev pub level_at : List Position → ℕ → Option ℕ
level_at ps u = option_map (λ q. q.level) (slice_get ps u)

-- Its kind.
abbrev pub kind_at : List Position → ℕ → Option Side
kind_at ps u = option_map (λ q. q.kind) (slice_get ps u)

-- The number of its moves.
abbrev pub degree_at : List Position → ℕ → Option ℕ
degree_at ps u = option_map (λ q. length q.moves) (slice_get ps u)

-- Where its move k leads, if it has one.
abbrev pub target_at : List Position → ℕ → ℕ → Option ℕ
target_at ps u k = slice_get (position ps u).moves k
