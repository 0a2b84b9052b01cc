-- The five rules of a sheet, at one position v whose entry has the colour of side c.
use Rattle.std.specs.Prelude.{◌≡◌, ℕ, ◌<◌, ◌≤◌, List, length}
use Rattle.game.specs.declared.side.Side.{Side}
use Rattle.game.specs.declared.sheet.Entry.{Entry}
use Rattle.game.specs.Sides.{opposite}
use Rattle.game.specs.Positions.{Position, position, degree, Leads}
use Rattle.game.specs.Sheets.{entry_of, Coloured}

-- Rule 22: where c owns the position the choice is the number of one of its moves, elsewhere it is 0.
pub record ChoiceFits (ps : List Position) (es : List Entry) (v : ℕ) (c : Side) : Type 0 where
  pub own : (position ps v).owner ≡ c → (entry_of es v).choice < degree ps v
  pub other : (position ps v).owner ≡ opposite c → (entry_of es v).choice ≡ 0

-- Move k counts: it is the chosen one if c owns the position. Elsewhere every move counts.
abbrev pub Counts : List Position → List Entry → ℕ → Side → ℕ → Type 0
Counts ps es v c k = (position ps v).owner ≡ c → k ≡ (entry_of es v).choice

-- Rule 23: each move that counts leads to an entry of colour c.
abbrev pub MovesKeepColour : List Position → List Entry → ℕ → Side → Type 0
MovesKeepColour ps es v c = (k w : ℕ) → Leads ps v k w → Counts ps es v c k → Coloured es w c

-- Rule 24: the rank is 0 where the kind is c, and at least 1 where it is not.
pub record RankFits (ps : List Position) (es : List Entry) (v : ℕ) (c : Side) : Type 0 where
  pub same_kind : (position ps v).kind ≡ c → (entry_of es v).rank ≡ 0
  pub other_kind : (position ps v).kind ≡ opposite c → 1 ≤ (entry_of es v).rank

-- Rule 25: where the kind is not c, each move that counts and stays within the level leads to a smaller rank.
abbrev pub RankFalls : List Position → List Entry → ℕ → Side → Type 0
RankFalls ps es v c = (position ps v).kind ≡ opposite c → (k w : ℕ) → Leads ps v k w → Counts ps es v c k → (position ps w).level ≡ (position ps v).level → (entry_of es w).rank < (entry_of es v).rank

-- The rules at v. Rule 21 is that there is such a side c.
pub record KeepsAt (ps : List Position) (es : List Entry) (v : ℕ) (c : Side) : Type 0 where
  pub coloured : Coloured es v c
  pub choice : ChoiceFits ps es v c
  pub moves : MovesKeepColour ps es v c
  pub rank : RankFits ps es v c
  pub falls : RankFalls ps es v c

-- The sheet keeps the rules: it has an entry for each position, and each keeps the rules for the side that it names.
pub record KeepsRules (ps : List Position) (es : List Entry) : Type 0 where
  pub size : length es ≡ length ps
  pub rules : (v : ℕ) → v < length ps → (c : Side) × KeepsAt ps es v c
