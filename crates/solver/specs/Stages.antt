-- How far a sheet is filled in, for the contracts of private functions. No promise rests on this.
use Rattle.std.specs.Prelude.{◌≡◌, ℕ, suc, ◌<◌, ◌≤◌, true, cond, ◌&&◌, List, length, nat_le}
use Rattle.game.specs.declared.sheet.Entry.{Entry}
use Rattle.game.specs.Sides.{number_of}
use Rattle.game.specs.Positions.{Position, position}
use Rattle.game.specs.Sheets.{entry_of}
use Rattle.rounds.specs.Rounds.{taker, taken, colour_of, rank_up_to, choice_of}

-- Colour and rank of v are those by the end of round n.
pub record Marked (ps : List Position) (n : ℕ) (es : List Entry) (v : ℕ) : Type 0 where
  pub colour : (entry_of es v).colour ≡ number_of (cond (taken ps n v) (taker ps v) (position ps v).kind)
  pub rank : (entry_of es v).rank ≡ rank_up_to ps (colour_of ps) n v

-- There is an entry for each position, and levels from l upwards are done.
pub record DoneFrom (ps : List Position) (l : ℕ) (es : List Entry) : Type 0 where
  pub sized : length es ≡ length ps
  pub marked : (v : ℕ) → v < length ps → l ≤ (position ps v).level → Marked ps (length ps) es v

-- Round n + 1 of level l has come to position i, the levels above being done. At i = 0 round n has just ended.
pub record Stage (ps : List Position) (l n i : ℕ) (es : List Entry) : Type 0 where
  pub above : DoneFrom ps (suc l) es
  pub passed : (v : ℕ) → v < i → v < length ps → (position ps v).level ≡ l → Marked ps (suc n) es v
  pub rest : (v : ℕ) → i ≤ v → v < length ps → (position ps v).level ≡ l → Marked ps n es v

-- If v is in level l, it is taken by the end of round n.
abbrev pub IsTakenIn : List Position → ℕ → ℕ → ℕ → Type 0
IsTakenIn ps l n v = (position ps v).level ≡ l → taken ps n v ≡ true

-- Each position of level l below i is taken by the end of round n.
abbrev pub AllTaken : List Position → ℕ → ℕ → ℕ → Type 0
AllTaken ps l n i = (v : ℕ) → v < i → IsTakenIn ps l n v

-- Level l has been cleared up to position i, the levels above being done.
pub record Cleared (ps : List Position) (l i : ℕ) (es : List Entry) : Type 0 where
  pub above : DoneFrom ps (suc l) es
  pub passed : (v : ℕ) → v < i → v < length ps → (position ps v).level ≡ l → Marked ps 0 es v

-- What a round reads: an entry for each position, colours above level l, and in it who is taken by round n.
pub record Readable (ps : List Position) (l n : ℕ) (es : List Entry) : Type 0 where
  pub sized : length es ≡ length ps
  pub above : (w : ℕ) → w < length ps → l < (position ps w).level → (entry_of es w).colour ≡ number_of (colour_of ps w)
  pub level : (w : ℕ) → w < length ps → (position ps w).level ≡ l → taken ps n w ≡ (nat_le 1 (entry_of es w).rank && nat_le (entry_of es w).rank n)

-- All colours and ranks are final, and so are the choices below i.
pub record Filled (ps : List Position) (i : ℕ) (es : List Entry) : Type 0 where
  pub done : DoneFrom ps 0 es
  pub chosen : (v : ℕ) → v < i → v < length ps → (entry_of es v).choice ≡ choice_of ps v
