-- What the rounds take: what is taken stays so, a level's rounds depend on nothing below it, and a level is done after as many rounds as there are positions.
use Rattle.std.proofs.Common.{◌≡◌, ℕ, zero, suc, ◌<◌, ◌≤◌, Bool, true, false, not, ◌&&◌, ◌||◌, eqb, ◌⊎◌, List, length, sym, refl, ap, ◌∙◌, subst, inl, inr, arith}
use Rattle.std.proofs.lemmas.Bool.{cases_Bool, cases_eq, cases_lt, both_ways, or_left, cond-true, cond-false, lt-ltb, le-ltb, eq-eqb, eqb-true, and_from, and_right, and_parts, not_from_false, not-true}
use Rattle.game.specs.declared.side.Side.{Side}
use Rattle.game.specs.Sides.{same}
use Rattle.game.specs.Positions.{Position, position, degree, target, Leads}
use Rattle.game.specs.Laws.{Lawful}
use Rattle.rounds.specs.Below.{any_below, count_below}
use Rattle.rounds.specs.Rounds.{taker, leads_already, forced, taken_by}
use Rattle.rounds.proofs.Belows.{any_at, any_false, any_not, any_same, all_same, count_most, count_grows}

-- two readings of the same level agree
pub record Agree (ps : List Position) (l : ℕ) (f g : ℕ → Bool) : Type 0 where
  pub at : (w : ℕ) → w < length ps → (position ps w).level ≡ l → f w ≡ g w

-- two colourings of the higher levels agree
pub record AgreeAbove (ps : List Position) (l : ℕ) (a b : ℕ → Side) : Type 0 where
  pub at : (w : ℕ) → w < length ps → l < (position ps w).level → a w ≡ b w

module _ (ps : List Position) (lawful : Lawful ps) where
  leads_same : (a b : ℕ → Side) (f g : ℕ → Bool) (v : ℕ) → AgreeAbove ps (position ps v).level a b → Agree ps (position ps v).level f g → (k : ℕ) → k < degree ps v → leads_already ps a f v k ≡ leads_already ps b g v k
  leads_same a b f g v above level k h =
      let w = target ps v k in
      let l : Leads ps v k w = record { there = h; to = refl } in
      let inside = lawful.bounded.targets v k w l in
      let up = lawful.monotone v k w l in
      elim (cases_lt (position ps v).level (position ps w).level) [
        | inl t ↦ cond-true _ _ _ (lt-ltb _ _ t) ∙ ap (same (taker ps v)) (above.at w inside t) ∙ sym (cond-true _ _ _ (lt-ltb _ _ t))
        | inr t ↦ cond-false _ _ _ (le-ltb _ _ t) ∙ level.at w inside (omega arith) ∙ sym (cond-false _ _ _ (le-ltb _ _ t))
      ]

  pub forced_same : (a b : ℕ → Side) (f g : ℕ → Bool) (v : ℕ) → AgreeAbove ps (position ps v).level a b → Agree ps (position ps v).level f g → forced ps a f v ≡ forced ps b g v
  forced_same a b f g v above level =
      let x = any_same (leads_already ps a f v) (leads_already ps b g v) (degree ps v) (leads_same a b f g v above level) in
      let y = all_same (leads_already ps a f v) (leads_already ps b g v) (degree ps v) (leads_same a b f g v above level) in
      cc

  -- the rounds of a level depend on the colours above alone
  pub taken_same : (a b : ℕ → Side) (l : ℕ) → AgreeAbove ps l a b → (r : ℕ) → Agree ps l (taken_by ps a r) (taken_by ps b r)
  unfolding taken_by
  taken_same a b l above zero = record { at = λ w h e. refl }
  taken_same a b l above (suc r) =
      let before = taken_same a b l above r in
      record {
        at = λ w h e.
            let x = before.at w h e in
            let y = forced_same a b (taken_by ps a r) (taken_by ps b r) w (subst (λ (m : ℕ). AgreeAbove ps m a b) (sym e) above) (subst (λ (m : ℕ). Agree ps m (taken_by ps a r) (taken_by ps b r)) (sym e) before) in
            cc;
      }

module _ (ps : List Position) (above : ℕ → Side) where
  pub taken_none : (v : ℕ) → taken_by ps above 0 v ≡ false
  unfolding taken_by
  taken_none v = refl

  pub taken_next : (r v : ℕ) → taken_by ps above (suc r) v ≡ (taken_by ps above r v || forced ps above (taken_by ps above r) v)
  unfolding taken_by
  taken_next r v = refl

  pub taken_more : (r v : ℕ) → taken_by ps above r v ≡ true → taken_by ps above (suc r) v ≡ true
  taken_more r v e = taken_next r v ∙ or_left _ _ e

  pub taken_later : (r s v : ℕ) → r ≤ s → taken_by ps above r v ≡ true → taken_by ps above s v ≡ true
  taken_later r zero v h e = subst (λ (n : ℕ). taken_by ps above n v ≡ true) (let z : r ≡ 0 = omega arith in z) e
  taken_later r (suc s) v h e = elim (cases_eq r (suc s)) [
    | inl x ↦ subst (λ (n : ℕ). taken_by ps above n v ≡ true) x e
    | inr x ↦ taken_more s v (taken_later r s v (omega arith) e)
  ]

  pub not_earlier : (r s v : ℕ) → r ≤ s → taken_by ps above s v ≡ false → taken_by ps above r v ≡ false
  not_earlier r s v h e = elim (cases_Bool (taken_by ps above r v)) [ inl t ↦ absurd (both_ways _ e (taken_later r s v h t)) | inr t ↦ t ]

-- round r + 1 adds nothing in level l
abbrev pub Still : List Position → (ℕ → Side) → ℕ → ℕ → Type 0
Still ps above l r = Agree ps l (taken_by ps above (suc r)) (taken_by ps above r)

module _ (ps : List Position) (lawful : Lawful ps) (above : ℕ → Side) (l : ℕ) where
  -- after such a round nothing is added
  pub still_later : (r : ℕ) → Still ps above l r → (s : ℕ) → r ≤ s → Agree ps l (taken_by ps above s) (taken_by ps above r)
  still_later r still zero h = record { at = λ w b e. ap (λ (n : ℕ). taken_by ps above n w) (let z : 0 ≡ r = omega arith in z) }
  still_later r still (suc s) h = elim (cases_eq r (suc s)) [
    | inl x ↦ record { at = λ w b e. ap (λ (n : ℕ). taken_by ps above n w) (sym x) }
    | inr x ↦
        let before = still_later r still s (omega arith) in
        record {
          at = λ w b e.
              let i = before.at w b e in
              let f = forced_same ps lawful above above (taken_by ps above s) (taken_by ps above r) w (record { at = λ u c g. refl }) (subst (λ (m : ℕ). Agree ps m (taken_by ps above s) (taken_by ps above r)) (sym e) before) in
              let p = taken_next ps above s w in
              let q = taken_next ps above r w in
              let t = still.at w b e in
              cc;
        }
  ]

  -- position v is in the level and is taken by round r
  abbrev in_level : ℕ → ℕ → Bool
  in_level r v = eqb (position ps v).level l && taken_by ps above r v

  -- round r + 1 takes v
  abbrev pub takes : ℕ → ℕ → Bool
  takes r v = eqb (position ps v).level l && (taken_by ps above (suc r) v && not (taken_by ps above r v))

  -- a position of the level that round r + 1 does not take stays as it was
  pub not_taking : (r w : ℕ) → (position ps w).level ≡ l → takes r w ≡ false → taken_by ps above (suc r) w ≡ taken_by ps above r w
  not_taking r w s e = by (taken_by ps above r w) refl (taken_by ps above (suc r) w) refl
    where
      by : (a : Bool) → taken_by ps above r w ≡ a → (b : Bool) → taken_by ps above (suc r) w ≡ b → taken_by ps above (suc r) w ≡ taken_by ps above r w
      by true p b q = taken_more ps above r w p ∙ sym p
      by false p false q = q ∙ sym p
      by false p true q = absurd (both_ways _ e (and_from _ _ (eq-eqb _ _ s) (and_from _ _ q (not_from_false _ p))))

  pub still_if : (r : ℕ) → any_below (takes r) (length ps) ≡ false → Still ps above l r
  still_if r e = record { at = λ w h s. not_taking r w s (any_not (takes r) (length ps) e w h) }

  -- what a round that takes v says of it
  pub taking : (r v : ℕ) → takes r v ≡ true → ((position ps v).level ≡ l) × (taken_by ps above (suc r) v ≡ true) × (taken_by ps above r v ≡ false)
  taking r v t =
      let (a, b) = and_parts (eqb (position ps v).level l) (taken_by ps above (suc r) v && not (taken_by ps above r v)) t in
      let (x, y) = and_parts (taken_by ps above (suc r) v) (not (taken_by ps above r v)) b in
      (eqb-true _ _ a, x, not-true _ y)

  grows : (r : ℕ) → any_below (takes r) (length ps) ≡ true → count_below (in_level r) (length ps) < count_below (in_level (suc r)) (length ps)
  grows r e =
      let (v, h, t) = any_at (takes r) (length ps) e in
      let (a, x, y) = taking r v t in
      count_grows (in_level r) (in_level (suc r)) (length ps) v
      (λ j i u. let (m, n) = and_parts (eqb (position ps j).level l) (taken_by ps above r j) u in and_from _ _ m (taken_more ps above r j n)) h
      (and_right (eqb (position ps v).level l) _ y) (and_from _ _ (eq-eqb _ _ a) x)

  -- up to round r some round added nothing, or r positions are taken
  progress : (r : ℕ) → ((j : ℕ) × (j < r) × Still ps above l j) ⊎ (r ≤ count_below (in_level r) (length ps))
  progress zero = inr (omega arith)
  progress (suc r) = by (progress r) (cases_Bool (any_below (takes r) (length ps)))
    where
      by : ((j : ℕ) × (j < r) × Still ps above l j) ⊎ (r ≤ count_below (in_level r) (length ps)) → (any_below (takes r) (length ps) ≡ true) ⊎ (any_below (takes r) (length ps) ≡ false) → ((j : ℕ) × (j < suc r) × Still ps above l j) ⊎ (suc r ≤ count_below (in_level (suc r)) (length ps))
      by (inl (j, h, s)) b = inl (j, omega arith, s)
      by (inr h) (inl t) = let g = grows r t in inr (omega arith)
      by (inr h) (inr f) = inl (r, omega arith, still_if r f)

  -- a level is done after as many rounds as there are positions
  pub still_enough : (j : ℕ) × (j ≤ length ps) × Still ps above l j
  still_enough = elim (progress (suc (length ps))) [
    | inl w ↦ (w.0, omega (arith, w.1), w.2)
    | inr h ↦ let m = count_most (in_level (suc (length ps))) (length ps) in absurd (omega arith)
  ]

  pub taken_enough : (s : ℕ) → length ps ≤ s → Agree ps l (taken_by ps above s) (taken_by ps above (length ps))
  taken_enough s h =
      let (j, b, still) = still_enough in
      record { at = λ w i e. (still_later j still s (omega arith)).at w i e ∙ sym ((still_later j still (length ps) b).at w i e) }

  -- after a round that takes nothing no round does
  pub none_later : (r s : ℕ) → any_below (takes r) (length ps) ≡ false → r ≤ s → any_below (takes s) (length ps) ≡ false
  none_later r s e h =
      let still = still_if r e in
      any_false (takes s) (length ps) (λ w b. elim (cases_Bool (takes s w)) [
        | inl t ↦
            let (at, by, before) = taking s w t in
            absurd (both_ways _ before ((still_later r still s h).at w b at ∙ sym ((still_later r still (suc s) (omega arith)).at w b at) ∙ by))
        | inr t ↦ t
      ])
