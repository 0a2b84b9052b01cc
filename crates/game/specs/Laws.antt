-- What every game keeps.
use Rattle.std.specs.Prelude.{◌≡◌, ℕ, ◌<◌, ◌≤◌, List, length}
use Rattle.game.specs.Positions.{Position, position, degree, Leads}

-- The most positions that a game has.
abbrev pub most_positions : ℕ
most_positions = 16384

-- The most moves that a position has.
abbrev pub most_moves : ℕ
most_moves = 65535

-- There is a position and there are not too many; each level is below their number, no position has too many moves, and each move leads to a position.
pub record Bounded (ps : List Position) : Type 0 where
  pub some : 1 ≤ length ps
  pub few : length ps ≤ most_positions
  pub levels : (u : ℕ) → u < length ps → (position ps u).level < length ps
  pub degrees : (u : ℕ) → u < length ps → degree ps u ≤ most_moves
  pub targets : (u k w : ℕ) → Leads ps u k w → w < length ps

-- No move leads to a lower level.
abbrev pub Monotone : List Position → Type 0
Monotone ps = (u k w : ℕ) → Leads ps u k w → (position ps u).level ≤ (position ps w).level

-- A move within a level keeps the kind.
abbrev pub KeepsKind : List Position → Type 0
KeepsKind ps = (u k w : ℕ) → Leads ps u k w → (position ps u).level ≡ (position ps w).level → (position ps u).kind ≡ (position ps w).kind

-- A list of positions is a game if it has the bounds and keeps both laws.
pub record Lawful (ps : List Position) : Type 0 where
  pub bounded : Bounded ps
  pub monotone : Monotone ps
  pub keeps_kind : KeepsKind ps
