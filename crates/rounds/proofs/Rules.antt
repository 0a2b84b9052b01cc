-- The colouring's sheet is ruled by the rounds.
use Rattle.std.proofs.Common.{◌≡◌, ℕ, suc, ◌-◌, ◌<◌, ◌≤◌, true, false, ◌&&◌, leb, List, length, sym, refl, ap, ◌∙◌, subst, inl, inr, arith}
use Rattle.std.proofs.lemmas.Bool.{cases_Bool, cases_lt, both_ways, cond-true, cond-false, and_from, and_parts, le-leb, leb-true, lt-ltb, le-ltb, or_right}
use Rattle.game.specs.declared.side.Side.{Side}
use Rattle.game.specs.declared.sheet.Entry.{Entry}
use Rattle.game.specs.Sides.{opposite, number_of}
use Rattle.game.specs.Positions.{Position, position, degree, target, Leads}
use Rattle.game.specs.Laws.{Lawful}
use Rattle.game.specs.Sheets.{entry_of, Coloured}
use Rattle.game.proofs.Sides.{cases_side, apart, number_same, own_same, other_same, same_true}
use Rattle.game.proofs.Firsts.{all_at, all_decides}
use Rattle.rounds.specs.Below.{first_true}
use Rattle.rounds.specs.Rounds.{taker, leads_already, forced, taken, colour_of, rank_of, suits, choice_of, colouring}
use Rattle.rounds.specs.Ruled.{Already, Forced, FirstMove, RuledByRounds}
use Rattle.rounds.proofs.Belows.{any_at, any_from, first_true_lem}
use Rattle.rounds.proofs.Taking.{taken_next, taken_later, taken_enough}
use Rattle.rounds.proofs.Levels.{colour_taken, colour_left}
use Rattle.rounds.proofs.Ranks.{rank_none, rank_some, rank_says}
use Rattle.rounds.proofs.Right.{colouring_entry, forced_then, suits_led, some_suits, choice_own, suits_same, some_suited, choice_kept, choice_zero, twice}

module _ (ps : List Position) (lawful : Lawful ps) where
  rank_few : (w : ℕ) → rank_of ps w ≤ length ps
  rank_few w = elim (cases_Bool (taken ps (length ps) w)) [
    | inl t ↦ (rank_some ps (colour_of ps) (length ps) w t).most
    | inr t ↦ let z = rank_none ps (colour_of ps) (length ps) w t in omega arith
  ]

  -- who is taken by round r, however late
  taken_ranked : (r w : ℕ) → w < length ps → taken ps r w ≡ (leb 1 (rank_of ps w) && leb (rank_of ps w) r)
  taken_ranked r w h = elim (cases_lt r (length ps)) [
    | inl b ↦ rank_says ps (colour_of ps) (length ps) r w (omega arith)
    | inr b ↦
        let few = rank_few w in
        (taken_enough ps lawful (colour_of ps) (position ps w).level r b).at w h refl ∙ rank_says ps (colour_of ps) (length ps) (length ps) w (omega arith)
        ∙ ap (λ x. leb 1 (rank_of ps w) && x) (le-leb _ _ few ∙ sym (le-leb _ _ (let z : rank_of ps w ≤ r = omega arith in z)))
  ]

  coloured : (w : ℕ) → w < length ps → (entry_of (colouring ps) w).colour ≡ number_of (colour_of ps w)
  coloured w h = ap (λ (x : Entry). x.colour) (colouring_entry ps w h)

  ranked : (w : ℕ) → w < length ps → (entry_of (colouring ps) w).rank ≡ rank_of ps w
  ranked w h = ap (λ (x : Entry). x.rank) (colouring_entry ps w h)

  module _ (r v k : ℕ) (b : k < degree ps v) where
    there : Leads ps v k (target ps v k)
    there = record { there = b; to = refl }

    inside : target ps v k < length ps
    inside = lawful.bounded.targets v k (target ps v k) there

    led_already : leads_already ps (colour_of ps) (taken ps r) v k ≡ true → Already ps (colouring ps) r v (target ps v k)
    led_already e =
        let up = lawful.monotone v k (target ps v k) there in
        elim (cases_lt (position ps v).level (position ps (target ps v k)).level) [
          | inl t ↦ inl (t, coloured (target ps v k) inside ∙ ap number_of (sym (same_true (taker ps v) (colour_of ps (target ps v k)) (sym (cond-true _ _ _ (lt-ltb _ _ t)) ∙ e))))
          | inr t ↦
              let (x, y) = and_parts (leb 1 (rank_of ps (target ps v k))) (leb (rank_of ps (target ps v k)) r) (sym (taken_ranked r (target ps v k) inside) ∙ sym (cond-false _ _ _ (le-ltb _ _ t)) ∙ e) in
              let p = leb-true _ _ x in
              let q = leb-true _ _ y in
              let s = ranked (target ps v k) inside in
              inr (omega arith, omega arith, omega arith)
        ]

    already_led : Already ps (colouring ps) r v (target ps v k) → leads_already ps (colour_of ps) (taken ps r) v k ≡ true
    already_led (inl (t, c)) = cond-true _ _ _ (lt-ltb _ _ t) ∙ own_same (taker ps v) _ (number_same _ _ (sym (coloured (target ps v k) inside) ∙ c))
    already_led (inr (t, p, q)) =
        let s = ranked (target ps v k) inside in
        cond-false _ _ _ (le-ltb _ _ (let z : (position ps (target ps v k)).level ≤ (position ps v).level = omega arith in z)) ∙ taken_ranked r (target ps v k) inside
        ∙ and_from _ _ (le-leb _ _ (let z : 1 ≤ rank_of ps (target ps v k) = omega arith in z)) (le-leb _ _ (let z : rank_of ps (target ps v k) ≤ r = omega arith in z))

  module _ (r v : ℕ) where
    by_forced : forced ps (colour_of ps) (taken ps r) v ≡ true → Forced ps (colouring ps) r v
    by_forced f = record {
      some = λ o.
          let (k, b, e) = any_at (leads_already ps (colour_of ps) (taken ps r) v) (degree ps v) (sym (cond-true _ _ _ (own_same (taker ps v) _ o)) ∙ f) in
          (k, target ps v k, there r v k b, led_already r v k b e);
      every = λ o k w l.
          let e = all_at (leads_already ps (colour_of ps) (taken ps r) v) (degree ps v) (sym (cond-false _ _ _ (other_same (taker ps v) _ (o ∙ sym (twice (position ps v).kind)))) ∙ f) k l.there in
          subst (λ (x : ℕ). Already ps (colouring ps) r v x) l.to (led_already r v k l.there e);
    }

    forced_by : Forced ps (colouring ps) r v → forced ps (colour_of ps) (taken ps r) v ≡ true
    forced_by f = elim (cases_side (position ps v).kind (position ps v).owner) [
      | inl o ↦ cond-false _ _ _ (other_same (taker ps v) _ (o ∙ sym (twice (position ps v).kind)))
          ∙ (all_decides (leads_already ps (colour_of ps) (taken ps r) v) (λ k. leads_already ps (colour_of ps) (taken ps r) v k ≡ true) (λ k. (λ t. t, λ t. t)) (degree ps v)).1 (λ k b. already_led r v k b (f.every o k (target ps v k) (there r v k b)))
      | inr o ↦
          let (k, w, l, a) = f.some o in
          cond-true _ _ _ (own_same (taker ps v) _ o) ∙ any_from (leads_already ps (colour_of ps) (taken ps r) v) (degree ps v) k l.there (already_led r v k l.there (subst (λ (x : ℕ). Already ps (colouring ps) r v x) (sym l.to) a))
    ]

    forced_taken : Forced ps (colouring ps) r v → taken ps (suc r) v ≡ true
    forced_taken f = taken_next ps (colour_of ps) r v ∙ or_right _ _ (forced_by f)

  module _ (v : ℕ) (h : v < length ps) where
    chosen : (entry_of (colouring ps) v).choice ≡ choice_of ps v
    chosen = ap (λ (x : Entry). x.choice) (colouring_entry ps v h)

    -- a colour on the sheet is the colour
    colour_read : (w : ℕ) (c : Side) → w < length ps → Coloured (colouring ps) w c → colour_of ps w ≡ c
    colour_read w c b e = number_same _ _ (sym (coloured w b) ∙ e)

    taken_by_lem : Coloured (colouring ps) v (taker ps v) → taken ps (length ps) v ≡ true
    taken_by_lem c = elim (cases_Bool (taken ps (length ps) v)) [ inl t ↦ t | inr t ↦ absurd (apart (position ps v).kind (sym (colour_left ps lawful v h t) ∙ colour_read v (taker ps v) h c)) ]

    left_by : Coloured (colouring ps) v (position ps v).kind → taken ps (length ps) v ≡ false
    left_by c = elim (cases_Bool (taken ps (length ps) v)) [ inl t ↦ absurd (apart (position ps v).kind (sym (colour_read v (position ps v).kind h c) ∙ colour_taken ps lawful v h t)) | inr t ↦ t ]

    choice_taken : (position ps v).owner ≡ taker ps v → Coloured (colouring ps) v (taker ps v) → (r : ℕ) → (entry_of (colouring ps) v).rank ≡ suc r → FirstMove ps v (Already ps (colouring ps) r v) (entry_of (colouring ps) v).choice
    choice_taken o c r e =
        let t = taken_by_lem c in
        let f = first_true_lem (suits ps v) (degree ps v) (some_suits ps lawful v h t o) in
        let s = ranked v h in
        let at : rank_of ps v - 1 ≡ r = omega arith in
        subst (λ (k : ℕ). FirstMove ps v (Already ps (colouring ps) r v) k) (sym (chosen ∙ choice_own ps lawful v h t o))
        (subst (λ (q : ℕ). FirstMove ps v (Already ps (colouring ps) q v) (first_true (suits ps v) (degree ps v))) at (record {
          there = f.below;
          leads = led_already (rank_of ps v - 1) v _ f.below (sym (suits_led ps lawful v h t _) ∙ f.passes);
          before = λ j b a. both_ways _ (f.before j b) (suits_led ps lawful v h t j ∙ already_led (rank_of ps v - 1) v j (let z = f.below in omega arith) a);
        }))

    choice_left : (position ps v).owner ≡ (position ps v).kind → Coloured (colouring ps) v (position ps v).kind → FirstMove ps v (λ w. Coloured (colouring ps) w (position ps v).kind) (entry_of (colouring ps) v).choice
    choice_left o c =
        let t = left_by c in
        let kind = colour_left ps lawful v h t in
        let f = first_true_lem (suits ps v) (degree ps v) (some_suited ps lawful v h t o) in
        subst (λ (k : ℕ). FirstMove ps v (λ w. Coloured (colouring ps) w (position ps v).kind) k) (sym (chosen ∙ choice_kept ps lawful v h t o)) (record {
          there = f.below;
          leads = coloured _ (inside 0 v _ f.below) ∙ ap number_of (sym (same_true (colour_of ps v) _ (sym (suits_same ps lawful v h t _) ∙ f.passes)) ∙ kind);
          before = λ j b a.
              let low : j < degree ps v = (let z = f.below in omega arith) in
              both_ways _ (f.before j b) (suits_same ps lawful v h t j ∙ own_same (colour_of ps v) _ (colour_read (target ps v j) (position ps v).kind (inside 0 v j low) a ∙ sym kind));
        })

  ruled : RuledByRounds ps (colouring ps)
  ruled v h = record {
    side = elim (cases_Bool (taken ps (length ps) v)) [ inl t ↦ inl (coloured v h ∙ ap number_of (colour_taken ps lawful v h t)) | inr t ↦ inr (coloured v h ∙ ap number_of (colour_left ps lawful v h t)) ];
    taken = λ c. by_taking (taken_by_lem v h c);
    left = λ c. (ranked v h ∙ rank_none ps (colour_of ps) (length ps) v (left_by v h c), λ r f. never (left_by v h c) r (forced_taken r v f));
    choice = record {
      taken = choice_taken v h;
      left = choice_left v h;
      other = λ c e o. chosen v h ∙ choice_zero ps lawful v h (o ∙ ap opposite (sym (colour_read v h v c h e)));
    };
  }
    where
      -- what is taken at any time is taken by the end
      never : taken ps (length ps) v ≡ false → (r : ℕ) → taken ps (suc r) v ≡ true → ⊥
      never t r e = elim (cases_lt (length ps) (suc r)) [
        | inl b ↦ both_ways _ ((taken_enough ps lawful (colour_of ps) (position ps v).level (suc r) (omega arith)).at v h refl ∙ t) e
        | inr b ↦ both_ways _ t (taken_later ps (colour_of ps) (suc r) (length ps) v b e)
      ]

      by_taking : taken ps (length ps) v ≡ true → (r : ℕ) × ((entry_of (colouring ps) v).rank ≡ suc r) × Forced ps (colouring ps) r v × ((q : ℕ) → q < r → Forced ps (colouring ps) q v → ⊥)
      by_taking t =
          let k = rank_some ps (colour_of ps) (length ps) v t in
          let some = k.some in
          let e : rank_of ps v ≡ suc (rank_of ps v - 1) = omega arith in (
            rank_of ps v - 1,
            ranked v h ∙ e,
            by_forced (rank_of ps v - 1) v (forced_then ps lawful v h t),
            λ q b f. both_ways _ k.before (taken_later ps (colour_of ps) (suc q) (rank_of ps v - 1) v b (forced_taken q v f)),
          )

pub colouring_ruled : (ps : List Position) → Lawful ps → RuledByRounds ps (colouring ps)
colouring_ruled ps lawful = ruled ps lawful
