-- A game's answers, read at any number.
use Rattle.std.proofs.Common.{◌≡◌, ℕ, zero, suc, ◌<◌, List, [], ◌∷◌, length, unwrap_or, refl, ap, inl, inr, arith}
use Rattle.std.specs.Option.{option_map}
use Rattle.std.specs.List.{slice_get}
use Rattle.std.proofs.lemmas.List.{get_or_past}
use Rattle.std.proofs.lemmas.Bool.{cases_lt}
use Rattle.std.proofs.lemmas.Option.{unwrap_or-slice_get}
use Rattle.game.specs.declared.side.Side.TheVariants.{Green}
use Rattle.game.specs.Positions.{Position, blank, position, degree, target, Leads, owner_at, level_at, kind_at, degree_at, target_at}
use Rattle.game.specs.Laws.{Bounded}

-- an answer, or what the blank position has
pub read_or : {X : Type 0} (f : Position → X) (ps : List Position) (v : ℕ) → unwrap_or (option_map f (slice_get ps v)) (f blank) ≡ f (position ps v)
read_or f [] v = refl
read_or f (p ∷ ps) zero = refl
read_or f (p ∷ ps) (suc v) = read_or f ps v

pub owner_read : (ps : List Position) (v : ℕ) → unwrap_or (owner_at ps v) Green ≡ (position ps v).owner
owner_read = read_or (λ q. q.owner)

pub level_read : (ps : List Position) (v : ℕ) → unwrap_or (level_at ps v) 0 ≡ (position ps v).level
level_read = read_or (λ q. q.level)

pub kind_read : (ps : List Position) (v : ℕ) → unwrap_or (kind_at ps v) Green ≡ (position ps v).kind
kind_read = read_or (λ q. q.kind)

pub degree_read : (ps : List Position) (v : ℕ) → unwrap_or (degree_at ps v) 0 ≡ degree ps v
degree_read = read_or (λ q. length q.moves)

pub target_read : (ps : List Position) (v k : ℕ) → unwrap_or (target_at ps v k) 0 ≡ target ps v k
target_read ps v k = unwrap_or-slice_get (position ps v).moves k 0

-- the reads, for `grind`
pub ruleset reads = (owner_read, level_read, kind_read, degree_read, target_read)

-- a target is a position, also that of a move that is not there
pub target_within : (ps : List Position) → Bounded ps → (v k : ℕ) → target ps v k < length ps
target_within ps bounded v k = elim (cases_lt k (degree ps v)) [
  | inl h ↦ bounded.targets v k (target ps v k) (record { there = h; to = refl })
  | inr h ↦ let e = get_or_past (position ps v).moves k 0 h in let s = bounded.some in omega arith
]

-- a position that has a move is there
pub leads_from : (ps : List Position) (u k w : ℕ) → Leads ps u k w → u < length ps
leads_from ps u k w l = elim (cases_lt u (length ps)) [ inl h ↦ h | inr h ↦ let e = ap (λ (q : Position). length q.moves) (get_or_past ps u blank h) in let b = l.there in absurd (omega arith) ]
