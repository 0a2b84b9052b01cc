-- The rule of the rounds, as a relation between a game and a sheet.
use Rattle.std.specs.Prelude.{◌≡◌, ℕ, suc, ◌<◌, ◌≤◌, ◌⊎◌, List, length}
use Rattle.game.specs.declared.side.Side.{Side}
use Rattle.game.specs.declared.sheet.Entry.{Entry}
use Rattle.game.specs.Sides.{opposite}
use Rattle.game.specs.Positions.{Position, position, degree, target, Leads}
use Rattle.game.specs.Sheets.{entry_of, Coloured}
use Rattle.rounds.specs.Rounds.{taker}

-- By the end of round r, w is the taker of v's already: it is in a higher level and has the taker's colour, or it is in the same level and was taken in one of the first r rounds.
abbrev pub Already : List Position → List Entry → ℕ → ℕ → ℕ → Type 0
Already ps es r v w = (((position ps v).level < (position ps w).level) × Coloured es w (taker ps v)) ⊎ (((position ps w).level ≡ (position ps v).level) × (1 ≤ (entry_of es w).rank) × ((entry_of es w).rank ≤ r))

-- What is taken by round r forces v: where the taker owns it some move leads to a position that is the taker's already, where the other side owns it every move does.
pub record Forced (ps : List Position) (es : List Entry) (r v : ℕ) : Type 0 where
  pub some : (position ps v).owner ≡ taker ps v → (k : ℕ) × (w : ℕ) × Leads ps v k w × Already ps es r v w
  pub every : (position ps v).owner ≡ (position ps v).kind → (k w : ℕ) → Leads ps v k w → Already ps es r v w

-- Move k is the first of v's that leads to a position with P.
pub record FirstMove (ps : List Position) (v : ℕ) (P : ℕ → Type 0) (k : ℕ) : Type 0 where
  pub there : k < degree ps v
  pub leads : P (target ps v k)
  pub before : (j : ℕ) → j < k → P (target ps v j) → ⊥

-- The rule of choices at v: where the taker owns it and took it in round r + 1, the first move to a position that was the taker's already by round r; where the other side owns it and kept it, the first move to a position of that side's colour; where its colour does not own it, 0.
pub record ChosenAt (ps : List Position) (es : List Entry) (v : ℕ) : Type 0 where
  pub taken : (position ps v).owner ≡ taker ps v → Coloured es v (taker ps v) → (r : ℕ) → (entry_of es v).rank ≡ suc r → FirstMove ps v (Already ps es r v) (entry_of es v).choice
  pub left : (position ps v).owner ≡ (position ps v).kind → Coloured es v (position ps v).kind → FirstMove ps v (λ w. Coloured es w (position ps v).kind) (entry_of es v).choice
  pub other : (c : Side) → Coloured es v c → (position ps v).owner ≡ opposite c → (entry_of es v).choice ≡ 0

-- The rule at v: its colour is the taker's, and its rank is r + 1 for the least r at which it is forced; or its colour is its kind's, its rank is 0, and nothing ever forces it.
pub record RuledAt (ps : List Position) (es : List Entry) (v : ℕ) : Type 0 where
  pub side : Coloured es v (taker ps v) ⊎ Coloured es v (position ps v).kind
  pub taken : Coloured es v (taker ps v) → (r : ℕ) × ((entry_of es v).rank ≡ suc r) × Forced ps es r v × ((q : ℕ) → q < r → Forced ps es q v → ⊥)
  pub left : Coloured es v (position ps v).kind → ((entry_of es v).rank ≡ 0) × ((r : ℕ) → Forced ps es r v → ⊥)
  pub choice : ChosenAt ps es v

-- The sheet is ruled by the rounds at every position.
abbrev pub RuledByRounds : List Position → List Entry → Type 0
RuledByRounds ps es = (v : ℕ) → v < length ps → RuledAt ps es v
