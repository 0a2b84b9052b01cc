-- What a row game answers at position p, read off the row there, if any.
use Rattle.std.proofs.Common.{◌≡◌, ℕ, ◌+◌, ◌≤◌, false, List, length, is_some, IfSome, Some, None, Option, refl, sym, ap, ◌∙◌, subst, arith}
use Rattle.std.specs.Option.{option_map, option_and_then}
use Rattle.std.specs.List.{slice_get}
use Rattle.std.proofs.lemmas.List.{length-take, length-drop}
use Rattle.std.proofs.lemmas.Option.{slice_get_within, slice_get-map, get_or_from_slice_get}
use Rattle.game.specs.Positions.{Position, owner_at, level_at, kind_at, degree_at, target_at}
use Rattle.combine.proofs.Targets as targets
use Rattle.games.specs.declared.row.Row.{Row}
use Rattle.games.specs.Rows.{side_in, span_of, position_of, meaning_of, blank_row, row_of, rows_refusal}
use Rattle.games.specs.RowReads.{moves_in, ReadOff}
use Rattle.games.specs.Faults.{all_sound}

-- no answer is what is not some answer
pub unfound : {F : Type 0} (o : Option F) → is_some o ≡ false → o ≡ None
unfound None e = refl
unfound (Some x) e = let z : ◌≡◌ {A = ℕ} 0 1 = cc in absurd (omega arith)

module _ (rs : List Row) (ts : List ℕ) (p : ℕ) where
  there : slice_get (meaning_of rs ts) p ≡ option_map (position_of ts) (slice_get rs p)
  there = slice_get-map (position_of ts) rs p

  owner_in : (o : Option Row) → option_map (λ q. q.owner) (option_map (position_of ts) o) ≡ option_map (λ r. side_in r.owner) o
  owner_in None = refl
  owner_in (Some r) = refl

  pub owner_read : owner_at (meaning_of rs ts) p ≡ option_map (λ r. side_in r.owner) (slice_get rs p)
  owner_read = ap (option_map (λ q. q.owner)) there ∙ owner_in (slice_get rs p)

  level_in : (o : Option Row) → option_map (λ q. q.level) (option_map (position_of ts) o) ≡ option_map (λ r. r.level) o
  level_in None = refl
  level_in (Some r) = refl

  pub level_read : level_at (meaning_of rs ts) p ≡ option_map (λ r. r.level) (slice_get rs p)
  level_read = ap (option_map (λ q. q.level)) there ∙ level_in (slice_get rs p)

  kind_in : (o : Option Row) → option_map (λ q. q.kind) (option_map (position_of ts) o) ≡ option_map (λ r. side_in r.kind) o
  kind_in None = refl
  kind_in (Some r) = refl

  pub kind_read : kind_at (meaning_of rs ts) p ≡ option_map (λ r. side_in r.kind) (slice_get rs p)
  kind_read = ap (option_map (λ q. q.kind)) there ∙ kind_in (slice_get rs p)

  count_read : rows_refusal rs ts ≡ None → (o : Option Row) → o ≡ slice_get rs p → IfSome o (λ r. r.count ≡ length (span_of ts r))
  count_read none None e = tt
  count_read none (Some r) e =
      let h = ((all_sound rs ts none).rows p (slice_get_within rs p r (sym e))).span in
      let s : row_of rs p ≡ r = get_or_from_slice_get rs p r blank_row (sym e) in
      let w : r.first + r.count ≤ length ts = subst (λ (x : Row). x.first + x.count ≤ length ts) s h in
      simp (length-take, length-drop) (omega arith)

  degree_in : rows_refusal rs ts ≡ None → (o : Option Row) → slice_get rs p ≡ o → option_map (λ q. length q.moves) (option_map (position_of ts) o) ≡ option_map (λ r. r.count) o
  degree_in none None e = refl
  degree_in none (Some r) e = ap {B = Option ℕ} Some (sym (count_read none (Some r) (sym e)))

  pub degree_read : rows_refusal rs ts ≡ None → degree_at (meaning_of rs ts) p ≡ option_map (λ r. r.count) (slice_get rs p)
  degree_read none = ap (option_map (λ q. length q.moves)) there ∙ degree_in none (slice_get rs p) refl

  target_in : (k : ℕ) (o : Option Row) → targets.target_in (option_map (position_of ts) o) k ≡ option_and_then (λ r. slice_get (span_of ts r) k) o
  target_in k None = refl
  target_in k (Some r) = refl

  pub target_read : (k : ℕ) → target_at (meaning_of rs ts) p k ≡ option_and_then (λ r. slice_get (span_of ts r) k) (slice_get rs p)
  target_read k = targets.target_read (meaning_of rs ts) p k ∙ ap (λ (o : Option Position). targets.target_in o k) there ∙ target_in k (slice_get rs p)

  moves_read : (k : ℕ) (o : Option Row) → slice_get (moves_in ts o) k ≡ targets.target_in (option_map (position_of ts) o) k
  moves_read k None = refl
  moves_read k (Some r) = refl

  targets_read : (o : Option Row) → o ≡ slice_get rs p → (k : ℕ) → slice_get (moves_in ts o) k ≡ target_at (meaning_of rs ts) p k
  targets_read o e k =
      moves_read k o
      ∙ ap (λ (x : Option Row). targets.target_in (option_map (position_of ts) x) k) e
      ∙ ap (λ (x : Option Position). targets.target_in x k) (sym there)
      ∙ sym (targets.target_read (meaning_of rs ts) p k)

  -- the whole of it: the position, its moves and how many they are
  pub read_off : rows_refusal rs ts ≡ None → (o : Option Row) → o ≡ slice_get rs p → ReadOff rs ts p o
  read_off none o e = record { position = ap (option_map (position_of ts)) e ∙ sym there; targets = targets_read o e; count = count_read none o e }

pub ruleset row_answers = (owner_read, level_read, kind_read, degree_read, target_read)
