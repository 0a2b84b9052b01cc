-- Two games under one head are a game, and its accepted sheets have the colours of the two.
use Rattle.std.proofs.Common.{◌≡◌, ℕ, zero, suc, ◌+◌, ◌-◌, ◌<◌, ◌≤◌, ◌⊎◌, List, map, length, sym, refl, ap, ◌∙◌, subst, inl, inr, one-add, arith}
use Rattle.std.proofs.lemmas.List.{length-append, length-map, get_or-map, get_or_append_left, get_or-append-add}
use Rattle.std.proofs.lemmas.Bool.{cases_lt, cases_eq}
use Rattle.game.specs.declared.side.Side.{Side}
use Rattle.game.specs.declared.sheet.Entry.{Entry}
use Rattle.game.specs.Sides.{opposite, number_of}
use Rattle.game.specs.Positions.{Position, blank, position, degree, target, Leads}
use Rattle.game.specs.Laws.{most_positions, most_moves, Lawful}
use Rattle.game.specs.Sheets.{entry_of, Coloured}
use Rattle.game.specs.Rules.{KeepsRules}
use Rattle.game.proofs.Sides.{cases_side, apart, number_same}
use Rattle.game.proofs.Answered.{leads_from}
use Rattle.game.proofs.Kept.{accepted_keeps}
use Rattle.game.proofs.Sound.{keeps_for}
use Rattle.combine.specs.Join.{shifted, joined, ColoursJoined}
use Rattle.combine.proofs.Parts.{Part, part_level, part_kind, part_degree, leads_part, part_colours}

-- what holds at 0, at 1 + v for v below n and at 1 + n + v for v below m holds below 1 + n + m
by_place : (n m : ℕ) (P : ℕ → Type 0) → P 0 → ((v : ℕ) → v < n → P (1 + v)) → ((v : ℕ) → v < m → P (1 + n + v)) → (u : ℕ) → u < 1 + n + m → P u
by_place n m P head first second u h = elim (cases_eq u 0) [
  | inl e ↦ subst P (sym e) head
  | inr e ↦ elim (cases_lt (u - 1) n) [
    | inl l ↦ let s : 1 + (u - 1) ≡ u = omega arith in subst P s (first (u - 1) l)
    | inr l ↦ let s : 1 + n + (u - 1 - n) ≡ u = omega arith in subst P s (second (u - 1 - n) (omega arith))
  ]
]

module _ (owner : Side) (xs : List Position) (p : ℕ) (ys : List Position) (q : ℕ) where
  abbrev js : List Position
  js = joined owner xs p ys q

  pub joined_length : length (joined owner xs p ys q) ≡ 1 + length xs + length ys
  joined_length = simp (length-append, length-map) (omega arith)

  pub joined_first : (v : ℕ) → v < length xs → position (joined owner xs p ys q) (1 + v) ≡ shifted 1 (position xs v)
  joined_first v h =
      let l = length-map xs (shifted 1) in
      ap (position js) (one-add v)
      ∙ get_or_append_left (map (shifted 1) xs) (map (shifted (1 + length xs)) ys) blank v (omega arith)
      ∙ get_or-map (shifted 1) xs v blank blank h

  pub joined_second : (v : ℕ) → v < length ys → position (joined owner xs p ys q) (1 + length xs + v) ≡ shifted (1 + length xs) (position ys v)
  joined_second v h =
      let l = length-map xs (shifted 1) in
      let e : 1 + length xs + v ≡ suc (length (map (shifted 1) xs) + v) = omega arith in
      ap (position js) e
      ∙ get_or-append-add (map (shifted 1) xs) (map (shifted (1 + length xs)) ys) v blank
      ∙ get_or-map (shifted (1 + length xs)) ys v blank blank h

  first_part : Part js xs 1
  first_part = let n = joined_length in record { within = omega arith; read = joined_first }

  second_part : Part js ys (1 + length xs)
  second_part = let n = joined_length in record { within = omega arith; read = joined_second }

  -- a move of the head leads to one of the two starts
  data HeadMove (k w : ℕ) : Type 0 where
    to_first : k ≡ 0 → w ≡ 1 + p → HeadMove k w
    to_second : k ≡ 1 → w ≡ 1 + length xs + q → HeadMove k w

  head_move : (k w : ℕ) → Leads js 0 k w → HeadMove k w
  head_move zero w l = to_first refl (sym l.to)
  head_move (suc zero) w l = to_second refl (sym l.to)
  head_move (suc (suc k)) w l = let b : suc (suc k) < 2 = l.there in absurd (omega arith)

  first_leads : Leads js 0 0 (1 + p)
  first_leads = record { there = omega arith; to = refl }

  second_leads : Leads js 0 1 (1 + length xs + q)
  second_leads = record { there = omega arith; to = refl }

  module _ (first : Lawful xs) (second : Lawful ys) (hp : p < length xs) (hq : q < length ys) where
    -- where a move leads, and what it does to level and kind
    record Lawfully (u k w : ℕ) : Type 0 where
      there : w < length js
      rises : (position js u).level ≤ (position js w).level
      keeps : (position js u).level ≡ (position js w).level → (position js u).kind ≡ (position js w).kind

    head_lawfully : (k w : ℕ) → Leads js 0 k w → Lawfully 0 k w
    head_lawfully k w l = elim (head_move k w l) [
      | to_first _ e ↦ let n = joined_length in
          let a = part_level js xs 1 first_part p hp in
          let b : (position js w).level ≡ (position js (1 + p)).level = ap (λ (x : ℕ). (position js x).level) e in
          record { there = omega arith; rises = omega arith; keeps = λ s. absurd (omega (arith, s)) }
      | to_second _ e ↦ let n = joined_length in
          let a = part_level js ys (1 + length xs) second_part q hq in
          let b : (position js w).level ≡ (position js (1 + length xs + q)).level = ap (λ (x : ℕ). (position js x).level) e in
          record { there = omega arith; rises = omega arith; keeps = λ s. absurd (omega (arith, s)) }
    ]

    part_lawfully : (ps : List Position) (d : ℕ) → Part js ps d → Lawful ps → (v : ℕ) → v < length ps → (k w : ℕ) → Leads js (d + v) k w → Lawfully (d + v) k w
    part_lawfully ps d part lawful v h k w l =
        let (x, m, e) = leads_part js ps d part v h k w l in
        let t = lawful.bounded.targets v k x m in
        let b = part.within in
        let a = part_level js ps d part v h in
        let c : (position js w).level ≡ 1 + (position ps x).level = ap (λ (x : ℕ). (position js x).level) (sym e) ∙ part_level js ps d part x t in
        let r = lawful.monotone v k x m in
        record {
          there = omega arith;
          rises = omega arith;
          keeps = λ s. part_kind js ps d part v h ∙ lawful.keeps_kind v k x m (omega (arith, s)) ∙ sym (part_kind js ps d part x t) ∙ ap (λ (x : ℕ). (position js x).kind) e;
        }

    lawfully : (u k w : ℕ) → Leads js u k w → Lawfully u k w
    lawfully u k w l =
        let n = joined_length in
        let b = leads_from js u k w l in
        by_place (length xs) (length ys) (λ u. (k w : ℕ) → Leads js u k w → Lawfully u k w)
        head_lawfully (part_lawfully xs 1 first_part first) (part_lawfully ys (1 + length xs) second_part second) u (omega arith) k w l

    pub joined_lawful : 1 + length xs + length ys ≤ most_positions → Lawful (joined owner xs p ys q)
    joined_lawful few =
        let n = joined_length in
        record {
          bounded = record {
            some = omega arith;
            few = omega arith;
            levels = λ u h. by_place (length xs) (length ys) (λ u. (position js u).level < length js)
                (omega arith)
                (λ v b. let a = part_level js xs 1 first_part v b in let l = first.bounded.levels v b in omega arith)
                (λ v b. let a = part_level js ys (1 + length xs) second_part v b in let l = second.bounded.levels v b in omega arith)
                u (omega arith);
            degrees = λ u h. by_place (length xs) (length ys) (λ u. degree js u ≤ most_moves)
                (omega arith)
                (λ v b. let a = part_degree js xs 1 first_part v b in let l = first.bounded.degrees v b in omega arith)
                (λ v b. let a = part_degree js ys (1 + length xs) second_part v b in let l = second.bounded.degrees v b in omega arith)
                u (omega arith);
            targets = λ u k w l. (lawfully u k w l).there;
          };
          monotone = λ u k w l. (lawfully u k w l).rises;
          keeps_kind = λ u k w l. (lawfully u k w l).keeps;
        }

    module _ (es fs gs : List Entry) (keeps : KeepsRules js gs) (own : KeepsRules xs es) (other : KeepsRules ys fs) where
      first_colours : (v : ℕ) → v < length xs → (entry_of gs (1 + v)).colour ≡ (entry_of es v).colour
      first_colours = part_colours js xs 1 first_part first gs keeps es own

      second_colours : (v : ℕ) → v < length ys → (entry_of gs (1 + length xs + v)).colour ≡ (entry_of fs v).colour
      second_colours = part_colours js ys (1 + length xs) second_part second gs keeps fs other

      here : 0 < length js
      here = let n = joined_length in omega arith

      -- where the head has its owner's colour, the chosen move leads to it
      head_from : Coloured gs 0 owner → Coloured es p owner ⊎ Coloured fs q owner
      head_from s =
          let at = keeps_for js gs keeps 0 here owner s in
          let k = (entry_of gs 0).choice in
          let l : Leads js 0 k (target js 0 k) = record { there = at.choice.own refl; to = refl } in
          let t = at.moves k (target js 0 k) l (λ _. refl) in
          elim (head_move k (target js 0 k) l) [
            | to_first _ e ↦ inl (sym (first_colours p hp) ∙ ap (λ (x : ℕ). (entry_of gs x).colour) (sym e) ∙ t)
            | to_second _ e ↦ inr (sym (second_colours q hq) ∙ ap (λ (x : ℕ). (entry_of gs x).colour) (sym e) ∙ t)
          ]

      -- where it has the other colour, each move leads to that
      head_other : (k w : ℕ) → Leads js 0 k w → Coloured gs w owner → Coloured gs 0 owner
      head_other k w l s =
          let (c, at) = keeps.rules 0 here in
          elim (cases_side owner c) [
            | inl e ↦ at.coloured ∙ ap number_of e
            | inr e ↦ let t = at.moves k w l (λ o. absurd (apart owner (o ∙ e))) in absurd (apart owner (number_same owner (opposite owner) (sym s ∙ t ∙ ap number_of e)))
          ]

      head_to : Coloured es p owner ⊎ Coloured fs q owner → Coloured gs 0 owner
      head_to (inl s) = head_other 0 (1 + p) first_leads (first_colours p hp ∙ s)
      head_to (inr s) = head_other 1 (1 + length xs + q) second_leads (second_colours q hq ∙ s)

    pub colours_joined : ColoursJoined owner xs p ys q
    colours_joined es fs gs a b c =
        let own = accepted_keeps xs es a in
        let other = accepted_keeps ys fs b in
        let keeps = accepted_keeps js gs c in
        record {
          first = first_colours es fs gs keeps own other;
          second = second_colours es fs gs keeps own other;
          head_from = head_from es fs gs keeps own other;
          head_to = head_to es fs gs keeps own other;
        }
