-- The colouring's sheet keeps the rules, so the check accepts it.
use Rattle.std.proofs.Common.{◌≡◌, ℕ, suc, ◌-◌, ◌<◌, ◌≤◌, Bool, true, false, List, length, sym, refl, ap, ◌∙◌, subst, inl, inr, zero-add, arith}
use Rattle.std.proofs.lemmas.List.FromFn.{length-map-range_with_len, get_or-map-range_with_len}
use Rattle.std.proofs.lemmas.Bool.{cases_Bool, cases_lt, both_ways, cond-true, cond-false, lt-ltb, le-ltb, or_cases, or_parts}
use Rattle.game.specs.declared.side.Side.{Side}
use Rattle.game.specs.declared.side.Side.TheVariants.{Green, Red}
use Rattle.game.specs.declared.sheet.Entry.{Entry}
use Rattle.game.specs.Sides.{opposite, number_of, same}
use Rattle.game.specs.Positions.{Position, position, degree, target, Leads}
use Rattle.game.specs.Laws.{Lawful}
use Rattle.game.specs.Sheets.{blank_entry, entry_of, Coloured}
use Rattle.game.specs.Rules.{KeepsAt, KeepsRules}
use Rattle.game.proofs.Sides.{cases_side, apart, own_same, other_same, same_true, same_false}
use Rattle.game.proofs.Firsts.{all_at, all_not}
use Rattle.rounds.specs.Below.{any_below, first_true}
use Rattle.rounds.specs.Rounds.{taker, leads_already, forced, taken, colour_of, rank_of, suits, choice_of, entry_for, colouring}
use Rattle.rounds.proofs.Belows.{any_at, any_from, any_not, first_true_lem}
use Rattle.rounds.proofs.Taking.{taken_next, taken_later, taken_enough}
use Rattle.rounds.proofs.Levels.{colour_taken, colour_left}
use Rattle.rounds.proofs.Ranks.{TookIn, rank_none, rank_some}

pub colouring_length : (ps : List Position) → length (colouring ps) ≡ length ps
colouring_length ps = length-map-range_with_len (entry_for ps) 0 (length ps)

pub colouring_entry : (ps : List Position) (v : ℕ) → v < length ps → entry_of (colouring ps) v ≡ entry_for ps v
colouring_entry ps v h = get_or-map-range_with_len (entry_for ps) 0 (length ps) v v blank_entry h (zero-add v)

pub twice : (c : Side) → opposite (opposite c) ≡ c
twice Green = refl
twice Red = refl

module _ (ps : List Position) (lawful : Lawful ps) (v : ℕ) (h : v < length ps) where
  -- where a move leads, and what it says of the target that it is the taker's already or not
  module _ (k : ℕ) (b : k < degree ps v) where
    move : Leads ps v k (target ps v k)
    move = record { there = b; to = refl }

    inside : target ps v k < length ps
    inside = lawful.bounded.targets v k (target ps v k) move

    same_taker : (position ps v).level ≡ (position ps (target ps v k)).level → taker ps (target ps v k) ≡ taker ps v
    same_taker e = ap opposite (sym (lawful.keeps_kind v k (target ps v k) move e))

    pub led_colour : (r : ℕ) → r ≤ length ps → leads_already ps (colour_of ps) (taken ps r) v k ≡ true → colour_of ps (target ps v k) ≡ taker ps v
    led_colour r m e =
        let up = lawful.monotone v k (target ps v k) move in
        elim (cases_lt (position ps v).level (position ps (target ps v k)).level) [
          | inl t ↦ sym (same_true (taker ps v) (colour_of ps (target ps v k)) (sym (cond-true _ _ _ (lt-ltb _ _ t)) ∙ e))
          | inr t ↦ colour_taken ps lawful (target ps v k) inside (taken_later ps (colour_of ps) r (length ps) (target ps v k) m (sym (cond-false _ _ _ (le-ltb _ _ t)) ∙ e)) ∙ same_taker (omega arith)
        ]

    -- within the level, it was taken by round r
    pub led_rank : (r : ℕ) → r ≤ length ps → leads_already ps (colour_of ps) (taken ps r) v k ≡ true → (position ps (target ps v k)).level ≡ (position ps v).level → rank_of ps (target ps v k) ≤ r
    led_rank r m e s =
        let t = sym (cond-false _ _ _ (le-ltb _ _ (let z : (position ps (target ps v k)).level ≤ (position ps v).level = omega arith in z))) ∙ e in
        let took = rank_some ps (colour_of ps) (length ps) (target ps v k) (taken_later ps (colour_of ps) r (length ps) (target ps v k) m t) in
        elim (cases_lt r (rank_of ps (target ps v k))) [
          | inl b ↦ absurd (both_ways _ took.before (taken_later ps (colour_of ps) r (rank_of ps (target ps v k) - 1) (target ps v k) (omega arith) t))
          | inr b ↦ b
        ]

    pub unled_colour : leads_already ps (colour_of ps) (taken ps (length ps)) v k ≡ false → colour_of ps (target ps v k) ≡ (position ps v).kind
    unled_colour e =
        let up = lawful.monotone v k (target ps v k) move in
        elim (cases_lt (position ps v).level (position ps (target ps v k)).level) [
          | inl t ↦ same_false (position ps v).kind (colour_of ps (target ps v k)) (sym (cond-true _ _ _ (lt-ltb _ _ t)) ∙ e)
          | inr t ↦ colour_left ps lawful (target ps v k) inside (sym (cond-false _ _ _ (le-ltb _ _ t)) ∙ e) ∙ sym (lawful.keeps_kind v k (target ps v k) move (omega arith))
        ]

  -- v was taken: the round that did it, and what forced it
  module _ (t : taken ps (length ps) v ≡ true) where
    took : TookIn ps (colour_of ps) (length ps) v (rank_of ps v)
    took = rank_some ps (colour_of ps) (length ps) v t

    round : ℕ
    round = rank_of ps v - 1

    few : round ≤ length ps
    unfolding round
    few = let m = took.most in omega arith

    pub forced_then : forced ps (colour_of ps) (taken ps (rank_of ps v - 1)) v ≡ true
    forced_then =
        let some = took.some in
        let e : rank_of ps v ≡ suc (rank_of ps v - 1) = omega arith in
        let by = sym (taken_next ps (colour_of ps) (rank_of ps v - 1) v) ∙ subst (λ (n : ℕ). taken ps n v ≡ true) e took.by in
        elim (or_cases _ _ by) [ inl a ↦ absurd (both_ways _ took.before a) | inr a ↦ a ]

    some_move : (position ps v).owner ≡ taker ps v → any_below (leads_already ps (colour_of ps) (taken ps round) v) (degree ps v) ≡ true
    unfolding round
    some_move o = sym (cond-true _ _ _ (own_same (taker ps v) _ o)) ∙ forced_then

    every_move : (position ps v).owner ≡ opposite (taker ps v) → (k : ℕ) → k < degree ps v → leads_already ps (colour_of ps) (taken ps round) v k ≡ true
    unfolding round
    every_move o = all_at (leads_already ps (colour_of ps) (taken ps round) v) (degree ps v) (sym (cond-false _ _ _ (other_same (taker ps v) _ o)) ∙ forced_then)

    pub suits_led : (k : ℕ) → suits ps v k ≡ leads_already ps (colour_of ps) (taken ps (rank_of ps v - 1)) v k
    suits_led k = cond-true _ _ _ t

    pub some_suits : (position ps v).owner ≡ taker ps v → any_below (suits ps v) (degree ps v) ≡ true
    unfolding round
    some_suits o = let (k, b, e) = any_at (leads_already ps (colour_of ps) (taken ps round) v) (degree ps v) (some_move o) in any_from (suits ps v) (degree ps v) k b (suits_led k ∙ e)

    pub choice_own : (position ps v).owner ≡ taker ps v → choice_of ps v ≡ first_true (suits ps v) (degree ps v)
    choice_own o = cond-true _ _ _ (own_same (colour_of ps v) _ (o ∙ sym (colour_taken ps lawful v h t)))

    choice_other : (position ps v).owner ≡ opposite (taker ps v) → choice_of ps v ≡ 0
    choice_other o = cond-false _ _ _ (other_same (colour_of ps v) _ (o ∙ ap opposite (sym (colour_taken ps lawful v h t))))

    -- a move that counts leads to a position that was the taker's already
    counted : (k : ℕ) → k < degree ps v → ((position ps v).owner ≡ taker ps v → k ≡ choice_of ps v) → leads_already ps (colour_of ps) (taken ps round) v k ≡ true
    unfolding round
    counted k b n = elim (cases_side (taker ps v) (position ps v).owner) [
      | inl o ↦ let f = first_true_lem (suits ps v) (degree ps v) (some_suits o) in sym (suits_led k) ∙ subst (λ (x : ℕ). suits ps v x ≡ true) (sym (n o ∙ choice_own o)) f.passes
      | inr o ↦ every_move o k b
    ]

  -- v was not taken: nothing forces it
  module _ (t : taken ps (length ps) v ≡ false) where
    unforced : forced ps (colour_of ps) (taken ps (length ps)) v ≡ false
    unforced =
        let e = (taken_enough ps lawful (colour_of ps) (position ps v).level (suc (length ps)) (omega arith)).at v h refl in
        (or_parts _ _ (sym (taken_next ps (colour_of ps) (length ps) v) ∙ e ∙ t)).1

    colour_kind : colour_of ps v ≡ (position ps v).kind
    colour_kind = colour_left ps lawful v h t

    same_colour : ℕ → Bool
    same_colour k = same (colour_of ps v) (colour_of ps (target ps v k))

    kept_colour : (k : ℕ) → k < degree ps v → leads_already ps (colour_of ps) (taken ps (length ps)) v k ≡ false → same_colour k ≡ true
    unfolding same_colour
    kept_colour k b e = own_same (colour_of ps v) _ (unled_colour k b e ∙ sym colour_kind)

    some_kept : (position ps v).owner ≡ (position ps v).kind → any_below same_colour (degree ps v) ≡ true
    some_kept o =
        let (k, b, e) = all_not (leads_already ps (colour_of ps) (taken ps (length ps)) v) (degree ps v) (sym (cond-false _ _ _ (other_same (taker ps v) _ (o ∙ sym (twice (position ps v).kind)))) ∙ unforced) in
        any_from same_colour (degree ps v) k b (kept_colour k b e)

    pub suits_same : (k : ℕ) → suits ps v k ≡ same (colour_of ps v) (colour_of ps (target ps v k))
    suits_same k = cond-false _ _ _ t

    pub some_suited : (position ps v).owner ≡ (position ps v).kind → any_below (suits ps v) (degree ps v) ≡ true
    unfolding same_colour
    some_suited o = let (k, b, e) = any_at same_colour (degree ps v) (some_kept o) in any_from (suits ps v) (degree ps v) k b (suits_same k ∙ e)

    pub choice_kept : (position ps v).owner ≡ (position ps v).kind → choice_of ps v ≡ first_true (suits ps v) (degree ps v)
    choice_kept o = cond-true _ _ _ (own_same (colour_of ps v) _ (o ∙ sym colour_kind))

    choice_none : (position ps v).owner ≡ opposite (position ps v).kind → choice_of ps v ≡ 0
    choice_none o = cond-false _ _ _ (other_same (colour_of ps v) _ (o ∙ ap opposite (sym colour_kind)))

    counted_kept : (k : ℕ) → k < degree ps v → ((position ps v).owner ≡ (position ps v).kind → k ≡ choice_of ps v) → same_colour k ≡ true
    unfolding same_colour
    counted_kept k b n = elim (cases_side (position ps v).kind (position ps v).owner) [
      | inl o ↦ let f = first_true_lem (suits ps v) (degree ps v) (some_suited o) in sym (suits_same k) ∙ subst (λ (x : ℕ). suits ps v x ≡ true) (sym (n o ∙ choice_kept o)) f.passes
      | inr o ↦ kept_colour k b (any_not (leads_already ps (colour_of ps) (taken ps (length ps)) v) (degree ps v) (sym (cond-true _ _ _ (own_same (taker ps v) _ o)) ∙ unforced) k b)
    ]

  -- the rules, in the words of the definition
  abbrev c : Side
  c = colour_of ps v

  choice_fits_lem : (position ps v).owner ≡ c → choice_of ps v < degree ps v
  choice_fits_lem o = elim (cases_Bool (taken ps (length ps) v)) [
    | inl t ↦ let p = o ∙ colour_taken ps lawful v h t in let f = first_true_lem (suits ps v) (degree ps v) (some_suits t p) in let e = choice_own t p in omega (arith, f.below, e)
    | inr t ↦ let p = o ∙ colour_left ps lawful v h t in let f = first_true_lem (suits ps v) (degree ps v) (some_suited t p) in let e = choice_kept t p in omega (arith, f.below, e)
  ]

  pub choice_zero : (position ps v).owner ≡ opposite c → choice_of ps v ≡ 0
  choice_zero o = elim (cases_Bool (taken ps (length ps) v)) [
    | inl t ↦ choice_other t (o ∙ ap opposite (colour_taken ps lawful v h t))
    | inr t ↦ choice_none t (o ∙ ap opposite (colour_left ps lawful v h t))
  ]

  -- a move that counts leads to the same colour
  colour_onward : (k : ℕ) → k < degree ps v → ((position ps v).owner ≡ c → k ≡ choice_of ps v) → colour_of ps (target ps v k) ≡ c
  unfolding same_colour
  colour_onward k b n = elim (cases_Bool (taken ps (length ps) v)) [
    | inl t ↦ let e = colour_taken ps lawful v h t in led_colour k b (round t) (few t) (counted t k b (λ o. n (o ∙ sym e))) ∙ sym e
    | inr t ↦ let e = colour_left ps lawful v h t in sym (same_true c (colour_of ps (target ps v k)) (counted_kept t k b (λ o. n (o ∙ sym e))))
  ]

  rank_zero : (position ps v).kind ≡ c → rank_of ps v ≡ 0
  rank_zero o = elim (cases_Bool (taken ps (length ps) v)) [
    | inl t ↦ absurd (apart (position ps v).kind (o ∙ colour_taken ps lawful v h t))
    | inr t ↦ rank_none ps (colour_of ps) (length ps) v t
  ]

  -- of the other kind, it was taken
  was_taken : (position ps v).kind ≡ opposite c → taken ps (length ps) v ≡ true
  was_taken o = elim (cases_Bool (taken ps (length ps) v)) [
    | inl t ↦ t
    | inr t ↦ absurd (apart c (colour_left ps lawful v h t ∙ o))
  ]

  rank_falls : (position ps v).kind ≡ opposite c → (k : ℕ) → k < degree ps v → ((position ps v).owner ≡ c → k ≡ choice_of ps v) → (position ps (target ps v k)).level ≡ (position ps v).level → rank_of ps (target ps v k) < rank_of ps v
  unfolding round
  rank_falls o k b n s =
      let t = was_taken o in
      let e = colour_taken ps lawful v h t in
      let m = led_rank k b (round t) (few t) (counted t k b (λ p. n (p ∙ sym e))) s in
      let some = (took t).some in
      omega arith

  keeps_at : KeepsAt ps (colouring ps) v c
  keeps_at =
      let e = colouring_entry ps v h in
      let choice = ap (λ (x : Entry). x.choice) e in
      let rank = ap (λ (x : Entry). x.rank) e in
      record {
        coloured = ap (λ (x : Entry). x.colour) e;
        choice = record {
          own = λ o. let f = choice_fits_lem o in omega arith;
          other = λ o. choice ∙ choice_zero o;
        };
        moves = λ k w l n. subst (λ (x : ℕ). Coloured (colouring ps) x c) l.to (ap (λ (x : Entry). x.colour) (colouring_entry ps (target ps v k) (inside k l.there)) ∙ ap number_of (colour_onward k l.there (λ o. n o ∙ choice)));
        rank = record {
          same_kind = λ o. rank ∙ rank_zero o;
          other_kind = λ o. let s = (took (was_taken o)).some in omega arith;
        };
        falls = λ o k w l n s.
            let there = colouring_entry ps (target ps v k) (inside k l.there) in
            let r = ap (λ (x : Entry). x.rank) there in
            let f = rank_falls o k l.there (λ p. n p ∙ choice) (ap (λ (x : ℕ). (position ps x).level) l.to ∙ s) in
            subst (λ (x : ℕ). (entry_of (colouring ps) x).rank < (entry_of (colouring ps) v).rank) l.to (omega arith);
      }

pub colouring_keeps : (ps : List Position) → Lawful ps → KeepsRules ps (colouring ps)
colouring_keeps ps lawful = record { size = colouring_length ps; rules = λ v h. (colour_of ps v, keeps_at ps lawful v h) }
