-- How many rounds add something.
use Rattle.std.proofs.Common.{◌≡◌, ℕ, zero, suc, ◌-◌, ◌*◌, ◌<◌, ◌≤◌, true, false, cond, eqb, ltb, List, length, sym, ap, ◌∙◌, subst, inl, inr, arith}
use Rattle.std.proofs.lemmas.Bool.{cases_Bool, cases_eq, cases_lt, both_ways, cond-true, cond-false, cond_both, and_from, not_from_false, eq-eqb, ne_eqb, lt-ltb, le-ltb}
use Rattle.game.specs.declared.sheet.Entry.{Entry}
use Rattle.game.specs.Positions.{Position, position}
use Rattle.game.specs.Laws.{Lawful}
use Rattle.rounds.specs.Below.{sum_below, max_below}
use Rattle.rounds.specs.Rounds.{taken, colour_of, rank_of, takes_at, adds, rounds_at, rounds_of, rank_in, highest_ranks, colouring}
use Rattle.rounds.proofs.Belows.{any_at, any_from, count_most, count_first, max_at, max_upper, max_most, max_same, sum_none, sum_more, sum_same}
use Rattle.rounds.proofs.Taking.{taken_later, taking, none_later}
use Rattle.rounds.proofs.Ranks.{rank_none, rank_some}
use Rattle.rounds.proofs.Right.{colouring_entry}

sum_most : (f : ℕ → ℕ) (n : ℕ) → ((k : ℕ) → f k ≤ 16384) → sum_below f n ≤ 16384 * n
sum_most f zero h = let e = sum_none f in omega arith
sum_most f (suc n) h = let e = sum_more f n in let a = sum_most f n h in let b = h n in omega arith

pub rounds_most : (ps : List Position) → Lawful ps → rounds_of ps ≤ 268435456
rounds_most ps lawful =
    let few = lawful.bounded.few in
    let a = sum_most (rounds_at ps) (length ps) (λ l. let m = count_most (adds ps l) (length ps) in omega arith) in
    omega arith

-- the rank of v where it is in level l, else 0
abbrev rank_at : List Position → ℕ → ℕ → ℕ
rank_at ps l v = cond (eqb (position ps v).level l) (rank_of ps v) 0

module _ (ps : List Position) (lawful : Lawful ps) (l : ℕ) where
  -- the highest rank of the level
  highest : ℕ
  highest = max_below (rank_at ps l) (length ps)

  rank_few : (v : ℕ) → rank_at ps l v ≤ length ps
  rank_few v = cond_both (eqb (position ps v).level l) (rank_of ps v) 0 (λ x. x ≤ length ps)
      (λ _. elim (cases_Bool (taken ps (length ps) v)) [
        | inl t ↦ (rank_some ps (colour_of ps) (length ps) v t).most
        | inr t ↦ let z = rank_none ps (colour_of ps) (length ps) v t in omega arith
      ])
      (λ _. omega arith)

  -- a round that takes v gives it its rank
  took_rank : (r v : ℕ) → r < length ps → takes_at ps l r v ≡ true → rank_at ps l v ≡ suc r
  took_rank r v h t =
      let (at, by, before) = taking ps lawful (colour_of ps) l r v t in
      let k = rank_some ps (colour_of ps) (length ps) v (taken_later ps (colour_of ps) (suc r) (length ps) v h by) in
      let rank = rank_of ps v in
      let low : rank ≤ suc r = elim (cases_lt (suc r) rank) [ inl b ↦ absurd (both_ways _ k.before (taken_later ps (colour_of ps) (suc r) (rank - 1) v (omega arith) by)) | inr b ↦ b ] in
      let high : suc r ≤ rank = elim (cases_lt r rank) [ inl b ↦ b | inr b ↦ absurd (both_ways _ before (taken_later ps (colour_of ps) rank r v b k.by)) ] in
      cond-true _ _ _ (eq-eqb _ _ at) ∙ (let z : rank ≡ suc r = omega arith in z)

  -- the round of a rank takes its position
  rank_took : (v : ℕ) → v < length ps → (m : ℕ) → 1 ≤ m → rank_at ps l v ≡ m → takes_at ps l (m - 1) v ≡ true
  rank_took v h m s e = elim (cases_eq (position ps v).level l) [
    | inl at ↦
        let r = sym (cond-true {A = ℕ} _ (rank_of ps v) 0 (eq-eqb _ _ at)) ∙ e in
        elim (cases_Bool (taken ps (length ps) v)) [
          | inl t ↦
              let k = rank_some ps (colour_of ps) (length ps) v t in
              let by = subst (λ (x : ℕ). taken ps x v ≡ true) (let z : rank_of ps v ≡ suc (m - 1) = omega arith in z) k.by in
              let before = subst (λ (x : ℕ). taken ps x v ≡ false) (let z : rank_of ps v - 1 ≡ m - 1 = omega arith in z) k.before in
              and_from _ _ (eq-eqb _ _ at) (and_from _ _ by (not_from_false _ before))
          | inr t ↦ let z = rank_none ps (colour_of ps) (length ps) v t in absurd (omega arith)
        ]
    | inr at ↦ let z = cond-false {A = ℕ} (eqb (position ps v).level l) (rank_of ps v) 0 (ne_eqb _ _ at) in absurd (omega arith)
  ]

  adds_up_to : (r : ℕ) → r < length ps → adds ps l r ≡ ltb r highest
  unfolding highest
  adds_up_to r h = elim (cases_Bool (adds ps l r)) [
    | inl t ↦
        let (v, b, e) = any_at (takes_at ps l r) (length ps) t in
        let rank = took_rank r v h e in
        let up = max_upper (rank_at ps l) (length ps) v b in
        t ∙ sym (lt-ltb _ _ (omega arith))
    | inr t ↦ elim (cases_lt r (max_below (rank_at ps l) (length ps))) [
      | inl b ↦
          let (v, c, e) = max_at (rank_at ps l) (length ps) (omega arith) in
          let m = max_below (rank_at ps l) (length ps) in
          let last = any_from (takes_at ps l (m - 1)) (length ps) v c (rank_took v c m (omega arith) e) in
          absurd (both_ways _ (none_later ps lawful (colour_of ps) l r (m - 1) t (omega arith)) last)
      | inr b ↦ t ∙ sym (le-ltb _ _ b)
    ]
  ]

  level_rounds : rounds_at ps l ≡ max_below (rank_at ps l) (length ps)
  unfolding highest
  level_rounds = count_first (adds ps l) (max_below (rank_at ps l) (length ps)) (length ps) adds_up_to (max_most (rank_at ps l) (length ps) (length ps) rank_few)

-- read off the colouring's sheet
rank_read : (ps : List Position) (l v : ℕ) → v < length ps → rank_at ps l v ≡ rank_in ps (colouring ps) l v
rank_read ps l v h = ap (λ (r : ℕ). cond (eqb (position ps v).level l) r 0) (sym (ap (λ (x : Entry). x.rank) (colouring_entry ps v h)))

pub rounds_ranks : (ps : List Position) → Lawful ps → rounds_of ps ≡ highest_ranks ps (colouring ps)
rounds_ranks ps lawful = sum_same (rounds_at ps) (λ l. max_below (rank_in ps (colouring ps) l) (length ps)) (length ps) (λ l. level_rounds ps lawful l ∙ max_same (rank_at ps l) (rank_in ps (colouring ps) l) (length ps) (rank_read ps l))
