-- What a pair answers at position u, by where it lies.
use Rattle.std.proofs.Common.{◌≡◌, ℕ, ◌+◌, ◌<◌, [], ◌∷◌, List, length, Some, ap, sym, ◌∙◌}
use Rattle.std.specs.Option.{option_map}
use Rattle.std.specs.List.{slice_get}
use Rattle.game.specs.declared.side.Side.{Side}
use Rattle.game.specs.declared.side.Side.TheVariants.{Green}
use Rattle.game.specs.Positions.{Position, owner_at, level_at, kind_at, degree_at, target_at}
use Rattle.combine.specs.Join.{shifted, joined}
use Rattle.combine.proofs.Parts as part
use Rattle.combine.proofs.Pairings.{read_first, read_second}

module _ (side : Side) (xs : List Position) (p : ℕ) (ys : List Position) (q u : ℕ) where
  abbrev js : List Position
  js = joined side xs p ys q

  pub owner_head : u ≡ 0 → owner_at (joined side xs p ys q) u ≡ Some side
  owner_head e = ap (owner_at js) e

  pub level_head : u ≡ 0 → level_at (joined side xs p ys q) u ≡ Some 0
  level_head e = ap (level_at js) e

  pub kind_head : u ≡ 0 → kind_at (joined side xs p ys q) u ≡ Some Green
  kind_head e = ap (kind_at js) e

  pub degree_head : u ≡ 0 → degree_at (joined side xs p ys q) u ≡ Some 2
  degree_head e = ap (degree_at js) e

  pub target_head : (k : ℕ) → u ≡ 0 → target_at (joined side xs p ys q) u k ≡ slice_get ((1 + p) ∷ (1 + length xs + q) ∷ []) k
  target_head k e = ap (λ (v : ℕ). target_at js v k) e

  module _ (v : ℕ) where
    first : u ≡ 1 + v → v < length xs → slice_get js u ≡ option_map (shifted 1) (slice_get xs v)
    first e h = ap (slice_get js) e ∙ read_first side xs p ys q v h

    second : u ≡ 1 + length xs + v → slice_get js u ≡ option_map (shifted (1 + length xs)) (slice_get ys v)
    second e = ap (slice_get js) e ∙ read_second side xs p ys q v

    pub owner_first : u ≡ 1 + v → v < length xs → owner_at (joined side xs p ys q) u ≡ owner_at xs v
    owner_first e h = sym (part.owner_answer js xs 1 u v (first e h))

    pub level_first : u ≡ 1 + v → v < length xs → level_at (joined side xs p ys q) u ≡ option_map (λ l. 1 + l) (level_at xs v)
    level_first e h = sym (part.level_answer js xs 1 u v (first e h))

    pub kind_first : u ≡ 1 + v → v < length xs → kind_at (joined side xs p ys q) u ≡ kind_at xs v
    kind_first e h = sym (part.kind_answer js xs 1 u v (first e h))

    pub degree_first : u ≡ 1 + v → v < length xs → degree_at (joined side xs p ys q) u ≡ degree_at xs v
    degree_first e h = sym (part.degree_answer js xs 1 u v (first e h))

    pub target_first : (k : ℕ) → u ≡ 1 + v → v < length xs → target_at (joined side xs p ys q) u k ≡ option_map (λ t. 1 + t) (target_at xs v k)
    target_first k e h = sym (part.target_answer js xs 1 u v (first e h) k)

    pub owner_second : u ≡ 1 + length xs + v → owner_at (joined side xs p ys q) u ≡ owner_at ys v
    owner_second e = sym (part.owner_answer js ys (1 + length xs) u v (second e))

    pub level_second : u ≡ 1 + length xs + v → level_at (joined side xs p ys q) u ≡ option_map (λ l. 1 + l) (level_at ys v)
    level_second e = sym (part.level_answer js ys (1 + length xs) u v (second e))

    pub kind_second : u ≡ 1 + length xs + v → kind_at (joined side xs p ys q) u ≡ kind_at ys v
    kind_second e = sym (part.kind_answer js ys (1 + length xs) u v (second e))

    pub degree_second : u ≡ 1 + length xs + v → degree_at (joined side xs p ys q) u ≡ degree_at ys v
    degree_second e = sym (part.degree_answer js ys (1 + length xs) u v (second e))

    pub target_second : (k : ℕ) → u ≡ 1 + length xs + v → target_at (joined side xs p ys q) u k ≡ option_map (λ t. 1 + length xs + t) (target_at ys v k)
    target_second k e = sym (part.target_answer js ys (1 + length xs) u v (second e) k)

pub ruleset owner_answers = (owner_head, owner_first, owner_second)

pub ruleset kind_answers = (kind_head, kind_first, kind_second)

pub ruleset degree_answers = (degree_head, degree_first, degree_second)
