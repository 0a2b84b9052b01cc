-- Who wins a game.
use Rattle.std.specs.Prelude.{◌≡◌, ℕ, suc, ◌<◌, ◌≤◌, List, length, ◌≢◌, slice_index}
use Rattle.game.specs.declared.side.Side.{Side}
use Rattle.game.specs.Sides.{opposite}
use Rattle.game.specs.Positions.{Position, position, degree, Leads}

-- The position at place i of a run.
abbrev pub place : List ℕ → ℕ → ℕ
place run i = slice_index run i

-- A run from v is a list of positions that begins with v, each next one reached by a move.
pub record Run (ps : List Position) (v : ℕ) (run : List ℕ) : Type 0 where
  pub some : 0 < length run
  pub first : place run 0 ≡ v
  pub positions : (i : ℕ) → i < length run → place run i < length ps
  pub steps : (i : ℕ) → suc i < length run → (k : ℕ) × Leads ps (place run i) k (place run (suc i))

-- A strategy of side c fixes one move at each of c's positions that has moves.
abbrev pub Strategy : List Position → Side → (ℕ → ℕ) → Type 0
Strategy ps c σ = (u : ℕ) → u < length ps → (position ps u).owner ≡ c → 1 ≤ degree ps u → σ u < degree ps u

-- A run follows a strategy of c where every step from a position of c's makes the fixed move.
abbrev pub Follows : List Position → Side → (ℕ → ℕ) → List ℕ → Type 0
Follows ps c σ run = (i : ℕ) → suc i < length run → (position ps (place run i)).owner ≡ c → Leads ps (place run i) (σ (place run i)) (place run (suc i))

-- What c wants of a run: it never stands at a position of c's without moves, and it has no position of the other side's kind at two places.
pub record Good (ps : List Position) (c : Side) (run : List ℕ) : Type 0 where
  pub moves : (i : ℕ) → i < length run → (position ps (place run i)).owner ≡ c → 1 ≤ degree ps (place run i)
  pub once : (i j : ℕ) → i < j → j < length run → place run i ≡ place run j → (position ps (place run i)).kind ≢ opposite c

-- Side c wins from position v: it has a strategy such that every run from v that follows it is good for c.
pub record Wins (ps : List Position) (c : Side) (v : ℕ) : Type 0 where
  pub here : v < length ps
  pub σ : ℕ → ℕ
  pub strategy : Strategy ps c σ
  pub wins : (run : List ℕ) → Run ps v run → Follows ps c σ run → Good ps c run
