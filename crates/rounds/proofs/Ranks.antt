-- Ranks: the round that took a position.
use Rattle.std.proofs.Common.{◌≡◌, ℕ, zero, suc, ◌-◌, ◌≤◌, true, false, ◌&&◌, leb, List, sym, refl, ap, ◌∙◌, subst, inl, inr, arith}
use Rattle.std.proofs.lemmas.Bool.{cases_Bool, cases_eq, cases_lt, both_ways, cond-true, cond-false, le-leb, lt-leb, and_from, and_left, and_right}
use Rattle.game.specs.declared.side.Side.{Side}
use Rattle.game.specs.Positions.{Position}
use Rattle.rounds.specs.Rounds.{taken_by, rank_up_to}
use Rattle.rounds.proofs.Taking.{taken_none, taken_later, not_earlier}

-- k is the round that took v, one of the first n
pub record TookIn (ps : List Position) (above : ℕ → Side) (n v k : ℕ) : Type 0 where
  pub some : 1 ≤ k
  pub most : k ≤ n
  pub by : taken_by ps above k v ≡ true
  pub before : taken_by ps above (k - 1) v ≡ false

module _ (ps : List Position) (above : ℕ → Side) where
  pub rank_none : (n v : ℕ) → taken_by ps above n v ≡ false → rank_up_to ps above n v ≡ 0
  unfolding rank_up_to
  rank_none zero v e = refl
  rank_none (suc n) v e = cond-false _ _ _ (not_earlier ps above n (suc n) v (omega arith) e) ∙ cond-false _ _ _ e

  pub rank_kept : (n v : ℕ) → taken_by ps above n v ≡ true → rank_up_to ps above (suc n) v ≡ rank_up_to ps above n v
  unfolding rank_up_to
  rank_kept n v e = cond-true _ _ _ e

  pub rank_new : (n v : ℕ) → taken_by ps above n v ≡ false → taken_by ps above (suc n) v ≡ true → rank_up_to ps above (suc n) v ≡ suc n
  unfolding rank_up_to
  rank_new n v e t = cond-false _ _ _ e ∙ cond-true _ _ _ t

  pub rank_some : (n v : ℕ) → taken_by ps above n v ≡ true → TookIn ps above n v (rank_up_to ps above n v)
  rank_some zero v e = absurd (both_ways _ (taken_none ps above v) e)
  rank_some (suc n) v e = elim (cases_Bool (taken_by ps above n v)) [
    | inl t ↦ let k = rank_some n v t in subst (λ (x : ℕ). TookIn ps above (suc n) v x) (sym (rank_kept n v t)) (record { some = k.some; most = omega (arith, k.most); by = k.by; before = k.before })
    | inr t ↦ subst (λ (x : ℕ). TookIn ps above (suc n) v x) (sym (rank_new n v t e)) (record { some = omega arith; most = omega arith; by = e; before = subst (λ (x : ℕ). taken_by ps above x v ≡ false) (let z : n ≡ suc n - 1 = omega arith in z) t })
  ]

  -- a rank says by which rounds its position is taken
  pub rank_says : (n r v : ℕ) → r ≤ n → taken_by ps above r v ≡ (leb 1 (rank_up_to ps above n v) && leb (rank_up_to ps above n v) r)
  rank_says n r v h = elim (cases_Bool (taken_by ps above n v)) [
    | inr t ↦ not_earlier ps above r n v h t ∙ sym (and_left _ _ (ap (leb 1) (rank_none n v t)))
    | inl t ↦
        let k = rank_some n v t in
        elim (cases_lt r (rank_up_to ps above n v)) [
          | inl b ↦ not_earlier ps above r (rank_up_to ps above n v - 1) v (omega arith) k.before ∙ sym (and_right _ _ (lt-leb _ _ b))
          | inr b ↦ taken_later ps above (rank_up_to ps above n v) r v b k.by ∙ sym (and_from _ _ (le-leb _ _ k.some) (le-leb _ _ b))
        ]
  ]

  -- where nothing was taken since round n, the rank is that by round n
  pub rank_later : (n m v : ℕ) → n ≤ m → taken_by ps above m v ≡ taken_by ps above n v → rank_up_to ps above m v ≡ rank_up_to ps above n v
  rank_later n zero v h e = ap (λ (x : ℕ). rank_up_to ps above x v) (let z : 0 ≡ n = omega arith in z)
  rank_later n (suc m) v h e = elim (cases_eq n (suc m)) [
    | inl s ↦ ap (λ (x : ℕ). rank_up_to ps above x v) (sym s)
    | inr s ↦ elim (cases_Bool (taken_by ps above n v)) [
      | inl t ↦ let u = taken_later ps above n m v (omega arith) t in rank_kept m v u ∙ rank_later n m v (omega arith) (u ∙ sym t)
      | inr t ↦ rank_none (suc m) v (e ∙ t) ∙ sym (rank_none n v t)
    ]
  ]
