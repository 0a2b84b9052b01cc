-- The colours, level by level: a level once done stays, so each colour is what the rounds of its level say beside the colours above.
use Rattle.std.proofs.Common.{◌≡◌, ℕ, zero, suc, ◌+◌, ◌-◌, ◌<◌, ◌≤◌, true, false, cond, List, length, sym, refl, ap, ◌∙◌, inl, inr, arith}
use Rattle.std.proofs.lemmas.Bool.{cases_eq, cond-true, cond-false, eq-eqb, ne_eqb}
use Rattle.game.specs.Positions.{Position, position}
use Rattle.game.specs.Laws.{Lawful}
use Rattle.rounds.specs.Rounds.{taker, taken, colour_by, colours_after, colour_of}
use Rattle.rounds.proofs.Taking.{AgreeAbove, taken_same}

module _ (ps : List Position) where
  after_same : (n v : ℕ) → ((position ps v).level + suc n ≡ length ps → ⊥) → colours_after ps (suc n) v ≡ colours_after ps n v
  unfolding colours_after
  after_same n v e = cond-false _ _ _ (ne_eqb _ _ e)

  pub after_done : (n v : ℕ) → (position ps v).level + suc n ≡ length ps → colours_after ps (suc n) v ≡ colour_by ps (colours_after ps n) v
  unfolding colours_after
  after_done n v e = cond-true _ _ _ (eq-eqb _ _ e)

  pub after_kept : (n m v : ℕ) → length ps ≤ (position ps v).level + n → n ≤ m → colours_after ps m v ≡ colours_after ps n v
  after_kept n zero v d h = ap (λ (x : ℕ). colours_after ps x v) (let z : 0 ≡ n = omega arith in z)
  after_kept n (suc m) v d h = elim (cases_eq n (suc m)) [
    | inl e ↦ ap (λ (x : ℕ). colours_after ps x v) (sym e)
    | inr e ↦ after_same m v (λ s. omega arith) ∙ after_kept n m v d (omega arith)
  ]

module _ (ps : List Position) (l n : ℕ) (done : l + suc n ≡ length ps) where
  -- before level l is done, the colours above are final
  pub above_final : AgreeAbove ps l (colours_after ps n) (colour_of ps)
  unfolding colour_of
  above_final = record { at = λ w h up. sym (after_kept ps n (length ps) w (omega arith) (omega arith)) }

  pub colour_final : (v : ℕ) → (position ps v).level ≡ l → colour_of ps v ≡ colour_by ps (colours_after ps n) v
  unfolding colour_of
  colour_final v e = after_kept ps (suc n) (length ps) v (omega arith) (omega arith) ∙ after_done ps n v (omega arith)

module _ (ps : List Position) (lawful : Lawful ps) (v : ℕ) (h : v < length ps) where
  -- how many levels are done before that of v
  before : (n : ℕ) × ((position ps v).level + suc n ≡ length ps)
  before = let l = lawful.bounded.levels v h in (length ps - 1 - (position ps v).level, omega arith)

  pub colour_is : colour_of ps v ≡ colour_by ps (colour_of ps) v
  colour_is =
      let (n, e) = before in
      let t = (taken_same ps lawful (colours_after ps n) (colour_of ps) (position ps v).level (above_final ps (position ps v).level n e) (length ps)).at v h refl in
      colour_final ps (position ps v).level n e v refl ∙ ap (λ b. cond b (taker ps v) (position ps v).kind) t

  pub colour_taken : taken ps (length ps) v ≡ true → colour_of ps v ≡ taker ps v
  colour_taken t = colour_is ∙ cond-true _ _ _ t

  pub colour_left : taken ps (length ps) v ≡ false → colour_of ps v ≡ (position ps v).kind
  colour_left t = colour_is ∙ cond-false _ _ _ t
