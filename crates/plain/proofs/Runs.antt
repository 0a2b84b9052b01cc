-- A run, one position longer: where it stands, what it has entered, and that it is a run and follows a strategy still.
use Rattle.std.proofs.Common.{◌≡◌, ℕ, suc, ◌+◌, ◌-◌, ◌<◌, cond, List, [], ◌∷◌, ◌++◌, length, get_or, drop, count_by, sym, refl, ap, ◌∙◌, subst, inl, inr, arith}
use Rattle.std.proofs.lemmas.List.{get_or_append_left, get_or_push, length_push, drop-append-le}
use Rattle.std.proofs.lemmas.List.Sums.{sum_by_push}
use Rattle.std.proofs.lemmas.Bool.{cases_lt}
use Rattle.game.specs.declared.side.Side.{Side}
use Rattle.game.specs.Sides.{opposite, same}
use Rattle.game.specs.Positions.{Position, position, Leads}
use Rattle.game.specs.Winning.{place, Run, Follows}
use Rattle.plain.specs.Plain.{stands_at, steps_of, entered_of, record_of}
use Rattle.plain.specs.Calls.{step_to}

module _ (run : List ℕ) (some : 0 < length run) (w : ℕ) where
  stands_push : stands_at (run ++ w ∷ []) ≡ w
  stands_push = let l = length_push run w in ap (λ n. get_or (run ++ w ∷ []) n 0) (omega arith) ∙ get_or_push run w 0 (length run) refl

  steps_push : steps_of (run ++ w ∷ []) ≡ steps_of run + 1
  steps_push = let l = length_push run w in omega arith

  entered_push : (ps : List Position) (c : Side) → entered_of ps c (run ++ w ∷ []) ≡ entered_of ps c run + cond (same c (position ps w).kind) 1 0
  entered_push ps c =
      ap (count_by (λ u. same c (position ps u).kind)) (drop-append-le 1 run (w ∷ []) some)
      ∙ sum_by_push (λ u. cond (same c (position ps u).kind) 1 0) (drop 1 run) w

  pub record_push : (ps : List Position) (house : Side) → record_of ps house (run ++ w ∷ []) ≡ step_to ps (record_of ps house run) w
  record_push ps house =
      let a = stands_push in
      let b = steps_push in
      let c = entered_push ps (opposite house) in
      cc

  before : (i : ℕ) → i < length run → place (run ++ w ∷ []) i ≡ place run i
  before i h = get_or_append_left run (w ∷ []) 0 i h

  -- what holds of each step of the run, and of one more, holds of each step of the longer run
  each_step : (P : ℕ → ℕ → Type 0) → ((i : ℕ) → suc i < length run → P (place run i) (place run (suc i))) → P (stands_at run) w → (i : ℕ) → suc i < length (run ++ w ∷ []) → P (place (run ++ w ∷ []) i) (place (run ++ w ∷ []) (suc i))
  each_step P old new i h =
      let l = length_push run w in
      let a = before i (omega arith) in
      elim (cases_lt (suc i) (length run)) [
        | inl b ↦ subst (λ u. P u (place (run ++ w ∷ []) (suc i))) (sym a) (subst (P (place run i)) (sym (before (suc i) b)) (old i b))
        | inr b ↦
            let last : i ≡ length run - 1 = omega arith in
            let at_end : place (run ++ w ∷ []) (suc i) ≡ w = get_or_push run w 0 (suc i) (omega arith) in
            subst (λ u. P u (place (run ++ w ∷ []) (suc i))) (sym (a ∙ ap (place run) last)) (subst (P (stands_at run)) (sym at_end) new)
      ]

module _ (ps : List Position) (v : ℕ) (run : List ℕ) (r : Run ps v run) where
  pub last_within : stands_at run < length ps
  last_within = let s = r.some in r.positions (length run - 1) (omega arith)

  module _ (w : ℕ) where
    pub run_push : w < length ps → (k : ℕ) → Leads ps (stands_at run) k w → Run ps v (run ++ w ∷ [])
    run_push within k leads =
        let l = length_push run w in
        record {
          some = omega arith;
          first = before run r.some w 0 r.some ∙ r.first;
          positions = λ i h. elim (cases_lt i (length run)) [
            | inl a ↦ subst (λ (u : ℕ). u < length ps) (sym (before run r.some w i a)) (r.positions i a)
            | inr a ↦ subst (λ (u : ℕ). u < length ps) (sym (get_or_push run w 0 i (omega arith))) within
          ];
          steps = each_step run r.some w (λ u x. (j : ℕ) × Leads ps u j x) r.steps (k, leads);
        }

    pub follows_push : (c : Side) (σ : ℕ → ℕ) → Follows ps c σ run → ((position ps (stands_at run)).owner ≡ c → Leads ps (stands_at run) (σ (stands_at run)) w) → Follows ps c σ (run ++ w ∷ [])
    follows_push c σ f leads = each_step run r.some w (λ u x. (position ps u).owner ≡ c → Leads ps u (σ u) x) f leads
