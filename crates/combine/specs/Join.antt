-- Two games under one head.
use Rattle.std.specs.Prelude.{◌≡◌, ℕ, ◌+◌, ◌<◌, Bool, ◌&&◌, ◌⊎◌, List, [], ◌∷◌, ◌++◌, map, length, None, Option, nat_le, nat_lt}
use Rattle.game.specs.declared.side.Side.{Side}
use Rattle.game.specs.declared.side.Side.TheVariants.{Green}
use Rattle.game.specs.declared.sheet.Entry.{Entry}
use Rattle.game.specs.Positions.{Position}
use Rattle.game.specs.Laws.{most_positions}
use Rattle.game.specs.Sheets.{entry_of, Coloured}
use Rattle.game.specs.Refusals.{Refused, refused}
use Rattle.game.specs.First.{unless}
use Rattle.game.specs.Checking.{checked}

-- A position of a game whose positions are numbered from d on: it keeps owner and kind, its level rises by one, and its moves lead d further.
abbrev pub shifted : ℕ → Position → Position
shifted d x = record { owner = x.owner; level = 1 + x.level; kind = x.kind; moves = map (λ t. d + t) x.moves }

-- The head, which has a move to a and one to b.
abbrev pub head_of : Side → ℕ → ℕ → Position
head_of owner a b = record { owner = owner; level = 0; kind = Green; moves = a ∷ b ∷ [] }

-- The head, with moves to p of the first game and to q of the second; then the first game's positions, then the second's.
abbrev pub joined : Side → List Position → ℕ → List Position → ℕ → List Position
joined owner xs p ys q = head_of owner (1 + p) (1 + length xs + q) ∷ (map (shifted 1) xs ++ map (shifted (1 + length xs)) ys)

-- Whether two games of n and m positions fit under one head.
abbrev pub fits : ℕ → ℕ → Bool
fits n m = nat_le (1 + n + m) most_positions

-- Why two games of n and m positions do not go under one head: p or q is not there, or there are too many positions. Nothing where they do.
abbrev pub join_refusal : ℕ → ℕ → ℕ → ℕ → Option Refused
join_refusal n p m q = unless (nat_lt p n && nat_lt q m) (refused 12) (unless (fits n m) (refused 13) None)

-- The colours of a sheet gs of the joined game are those of sheets es and fs of the two games, and the head has its owner's exactly when p or q has it.
pub record ColoursAgree (owner : Side) (n p m q : ℕ) (es fs gs : List Entry) : Type 0 where
  pub first : (v : ℕ) → v < n → (entry_of gs (1 + v)).colour ≡ (entry_of es v).colour
  pub second : (v : ℕ) → v < m → (entry_of gs (1 + n + v)).colour ≡ (entry_of fs v).colour
  pub head_from : Coloured gs 0 owner → Coloured es p owner ⊎ Coloured fs q owner
  pub head_to : Coloured es p owner ⊎ Coloured fs q owner → Coloured gs 0 owner

-- The colours agree on all accepted sheets of the two games and of the joined one.
abbrev pub ColoursJoined : Side → List Position → ℕ → List Position → ℕ → Type 0
ColoursJoined owner xs p ys q = (es fs gs : List Entry) → checked xs es ≡ None → checked ys fs ≡ None → checked (joined owner xs p ys q) gs ≡ None → ColoursAgree owner (length xs) p (length ys) q es fs gs
