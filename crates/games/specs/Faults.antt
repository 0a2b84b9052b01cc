-- What lists without a fault keep.
use Rattle.std.specs.Prelude.{◌≡◌, ℕ, ◌+◌, ◌<◌, ◌≤◌, Bool, true, false, ◌&&◌, List, length, Some, None, nat_le, slice_index}
use Rattle.std.proofs.Common.{refl, sym, ◌∙◌, arith}
use Rattle.std.specs.List.{list_all}
use Rattle.std.proofs.lemmas.List.Folds.{list_all_at}
use Rattle.std.proofs.lemmas.Bool.{cond-true, and_parts, leb-true, ltb-true}
use Rattle.std.proofs.lemmas.Bool.Decides.{nat_tests}
use Rattle.game.specs.Laws.{most_positions, most_moves}
use Rattle.game.specs.Refusals.{Refused, refused_at}
use Rattle.game.specs.First.{first_below}
use Rattle.game.proofs.Firsts.{first_found, first_clear, unless_none}
use Rattle.games.specs.declared.row.Row.{Row}
use Rattle.games.specs.Rows.{span_of, is_inside, keeps_law, is_lawful, row_of, row_refusal, rows_refusal}

all_at : (p : ℕ → Bool) (xs : List ℕ) → list_all p xs ≡ true → (k : ℕ) → k < length xs → p (slice_index xs k) ≡ true
all_at p xs e k h = elim (p (slice_index xs k)) as (λ b. p (slice_index xs k) ≡ b → b ≡ true) [
  | true ↦ λ _. refl
  | false ↦ λ f. sym (list_all_at p xs k 0 h f) ∙ e
] refl

module _ (rs : List Row) (ts : List ℕ) where
  -- the fault of row i is the first
  pub fault_first : (i : ℕ) (x : Refused) → true ≡ (nat_le 1 (length rs) && nat_le (length rs) most_positions) → i < length rs → first_below (row_refusal rs ts) i ≡ None → Some x ≡ row_refusal rs ts i → Some x ≡ rows_refusal rs ts
  fault_first i x sized h clear e =
      sym (cond-true _ _ _ (sym sized)
      ∙ first_found (row_refusal rs ts) i (length rs) x clear (sym e) h)

  -- a row without a fault
  pub record Sound (r : Row) : Type 0 where
    pub span : r.first + r.count ≤ length ts
    pub count : r.count ≤ most_moves
    pub level : r.level < length rs
    pub inside : (k : ℕ) → k < length (span_of ts r) → slice_index (span_of ts r) k < length rs
    pub rises : (k : ℕ) → k < length (span_of ts r) → r.level ≤ (row_of rs (slice_index (span_of ts r) k)).level
    pub keeps : (k : ℕ) → k < length (span_of ts r) → r.level ≡ (row_of rs (slice_index (span_of ts r) k)).level → r.kind ≡ (row_of rs (slice_index (span_of ts r) k)).kind

  law_rises : (r t : Row) → keeps_law r t ≡ true → r.level ≤ t.level
  law_rises r t e = leb-true _ _ (and_parts _ _ e).0

  law_keeps : (r t : Row) → keeps_law r t ≡ true → r.level ≡ t.level → r.kind ≡ t.kind
  law_keeps r t e s = grind (arith, nat_tests)

  row_sound : (i : ℕ) → row_refusal rs ts i ≡ None → Sound (row_of rs i)
  row_sound i e =
      let r = row_of rs i in
      let (formed, later) = unless_none _ (refused_at i 15) _ e in
      let (lawful, _) = unless_none _ (refused_at i 16) None later in
      let (_, kind) = and_parts (nat_le r.owner 1) _ formed in
      let (_, fits) = and_parts (nat_le r.kind 1) _ kind in
      let (span, inside) = and_parts _ _ fits in
      let (first, count) = and_parts _ _ span in
      let (level, laws) = and_parts _ _ lawful in
      record {
        span = leb-true _ _ first;
        count = leb-true _ _ count;
        level = ltb-true _ _ level;
        inside = λ k h. ltb-true _ _ (all_at (is_inside rs) (span_of ts r) inside k h);
        rises = λ k h. law_rises r (row_of rs (slice_index (span_of ts r) k)) (all_at (is_lawful rs r) (span_of ts r) laws k h);
        keeps = λ k h. law_keeps r (row_of rs (slice_index (span_of ts r) k)) (all_at (is_lawful rs r) (span_of ts r) laws k h);
      }

  pub record AllSound : Type 0 where
    pub some : 1 ≤ length rs
    pub few : length rs ≤ most_positions
    pub rows : (i : ℕ) → i < length rs → Sound (row_of rs i)

  pub all_sound : rows_refusal rs ts ≡ None → AllSound
  all_sound e =
      let (sized, rest) = unless_none _ _ _ e in
      let (some, few) = and_parts _ _ sized in
      record {
        some = leb-true _ _ some;
        few = leb-true _ _ few;
        rows = λ i h. row_sound i (first_clear (row_refusal rs ts) (length rs) rest i h);
      }
