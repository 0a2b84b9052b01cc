-- The check's tests decide the rules, so it accepts exactly the sheets that keep them.
use Rattle.std.proofs.Common.{◌≡◌, ℕ, ◌<◌, Bool, true, ◌||◌, List, length, Some, None, Decides, Option, sym, refl, ap, ◌∙◌, subst, inl, inr, arith}
use Rattle.std.specs.Option.{option_map}
use Rattle.std.proofs.lemmas.Bool.{cond-true, eq-eqb, eqb-true, le-leb, leb-true}
use Rattle.std.proofs.lemmas.Bool.Decides.{nat_tests, Decides-eqb, Decides-ltb, Decides-like}
use Rattle.game.specs.declared.side.Side.{Side}
use Rattle.game.specs.declared.sheet.Entry.{Entry}
use Rattle.game.specs.Sides.{opposite, side_of, same}
use Rattle.game.specs.Positions.{Position, position, degree, target}
use Rattle.game.specs.Sheets.{entry_of, Coloured}
use Rattle.game.specs.Rules.{ChoiceFits, MovesKeepColour, RankFits, RankFalls, KeepsAt, KeepsRules}
use Rattle.game.specs.Refusals.{refused_at}
use Rattle.game.specs.First.{all_below}
use Rattle.game.specs.Checking.{choice_fits, each_counting, keeps_colour, rank_fits, rank_falls, first_broken, broken_for, broken_by, refused_by, checked}
use Rattle.game.proofs.Sides.{cases_side, apart, own_same, other_same, side_decides, side_number, number_side}
use Rattle.game.proofs.Firsts.{all_decides, unless_none, first_clear, first_all}

-- a move test, asked of the moves that count
abbrev Counting : Side → Side → ℕ → ℕ → (ℕ → Type 0) → Type 0
Counting c o choice n P = (k : ℕ) → k < n → (o ≡ c → k ≡ choice) → P k

each_decides : (c o : Side) (choice n : ℕ) (f : ℕ → Bool) (P : ℕ → Type 0) → ((k : ℕ) → Decides (f k) (P k)) → (o ≡ c → choice < n) → Decides (each_counting (same c o) choice n f) (Counting c o choice n P)
each_decides c o choice n f P each fits =
    Decides-like (each_counting (same c o) choice n f)
    (λ b k l m. elim (cases_side c o) [ inl e ↦ subst P (sym (m e)) (b.0 e) | inr e ↦ b.1 e k l ])
    (λ h. (λ e. h choice (fits e) (λ _. refl), λ e k l. h k l (λ d. absurd (apart c (sym d ∙ e)))))
    (side_decides c o (f choice) (all_below f n) (P choice) ((k : ℕ) → k < n → P k) (each choice) (all_decides f P each n))

-- a test of the other side alone
other_decides : (c d : Side) (y : Bool) (Q : Type 0) → Decides y Q → Decides (same c d || y) (d ≡ opposite c → Q)
other_decides c d y Q q = elim (cases_side c d) [
  | inl e ↦ (λ t o. absurd (apart c (sym e ∙ o)), λ h. ap (λ b. b || y) (own_same c d e))
  | inr e ↦ let s : (same c d || y) ≡ y = ap (λ b. b || y) (other_same c d e) in (λ t o. q.0 (sym s ∙ t), λ h. s ∙ q.1 (h e))
]

all_kept : (a b x y : Bool) → first_broken a b x y ≡ None → (a ≡ true) × (b ≡ true) × (x ≡ true) × (y ≡ true)
all_kept a b x y e =
    let p = unless_none a 22 _ e in
    let q = unless_none b 23 _ p.1 in
    let r = unless_none x 24 _ q.1 in
    (p.0, q.0, r.0, (unless_none y 25 _ r.1).0)

none_broken : (a b x y : Bool) → a ≡ true → b ≡ true → x ≡ true → y ≡ true → first_broken a b x y ≡ None
none_broken a b x y p q r s = cc

unmapped : {X Y : Type 0} (f : X → Y) (o : Option X) → option_map f o ≡ None → o ≡ None
unmapped f None e = refl
unmapped f (Some x) e = absurd (cc)

module _ (ps : List Position) (es : List Entry) (v : ℕ) (c : Side) where
  choice_decides : Decides (choice_fits (same c (position ps v).owner) (entry_of es v).choice (degree ps v)) (ChoiceFits ps es v c)
  choice_decides =
      Decides-like _ (λ b. record { own = b.0; other = b.1 }) (λ r. (r.own, r.other))
      (side_decides c (position ps v).owner _ _ _ _ (Decides-ltb (entry_of es v).choice (degree ps v)) (Decides-eqb (entry_of es v).choice 0))

  rank_decides : Decides (rank_fits (same c (position ps v).kind) (entry_of es v).rank) (RankFits ps es v c)
  rank_decides =
      Decides-like _ (λ b. record { same_kind = b.0; other_kind = b.1 }) (λ r. (r.same_kind, r.other_kind))
      (side_decides c (position ps v).kind _ _ _ _ (Decides-eqb (entry_of es v).rank 0) (leb-true 1 (entry_of es v).rank, le-leb 1 (entry_of es v).rank))

  module _ (s : Coloured es v c) (fits : (position ps v).owner ≡ c → (entry_of es v).choice < degree ps v) where
    moves_decides : Decides (each_counting (same c (position ps v).owner) (entry_of es v).choice (degree ps v) (keeps_colour ps es v)) (MovesKeepColour ps es v c)
    moves_decides =
        Decides-like _
        (λ h k w l n. subst (λ (x : ℕ). Coloured es x c) l.to (h k l.there n ∙ s))
        (λ m k l n. m k (target ps v k) (record { there = l; to = refl }) n ∙ sym s)
        (each_decides c (position ps v).owner (entry_of es v).choice (degree ps v) (keeps_colour ps es v) (λ k. (entry_of es (target ps v k)).colour ≡ (entry_of es v).colour) (λ k. Decides-eqb _ _) fits)

    -- the move test of rule 25 alone
    abbrev Falls : ℕ → Type 0
    Falls k = (position ps (target ps v k)).level ≡ (position ps v).level → (entry_of es (target ps v k)).rank < (entry_of es v).rank

    fall_decides : (k : ℕ) → Decides (rank_falls ps es v k) (Falls k)
    fall_decides k = (λ t e. grind (arith, nat_tests), λ h. grind (arith, nat_tests))

    falls_decides : Decides (same c (position ps v).kind || each_counting (same c (position ps v).owner) (entry_of es v).choice (degree ps v) (rank_falls ps es v)) (RankFalls ps es v c)
    falls_decides =
        other_decides c (position ps v).kind _ _
        (Decides-like _
        (λ h k w l n. subst (λ (x : ℕ). (position ps x).level ≡ (position ps v).level → (entry_of es x).rank < (entry_of es v).rank) l.to (h k l.there n))
        (λ m k l n. m k (target ps v k) (record { there = l; to = refl }) n)
        (each_decides c (position ps v).owner (entry_of es v).choice (degree ps v) (rank_falls ps es v) Falls fall_decides fits))

  -- no rule is broken, for the side that the entry names
  pub kept_at : Coloured es v c → broken_for ps es v c ≡ None → KeepsAt ps es v c
  unfolding broken_for
  kept_at s n =
      let (a, b, x, y) = all_kept _ _ _ _ n in
      let choice = choice_decides.0 a in
      record {
        coloured = s;
        choice = choice;
        moves = (moves_decides s choice.own).0 b;
        rank = rank_decides.0 x;
        falls = (falls_decides s choice.own).0 y;
      }

  pub unbroken_at : KeepsAt ps es v c → broken_for ps es v c ≡ None
  unfolding broken_for
  unbroken_at k =
      let s = k.coloured in
      let fits = k.choice.own in
      none_broken _ _ _ _ (choice_decides.1 k.choice) ((moves_decides s fits).1 k.moves) (rank_decides.1 k.rank) ((falls_decides s fits).1 k.falls)

module _ (ps : List Position) (es : List Entry) where
  kept_by : (v : ℕ) (o : Option Side) → side_of (entry_of es v).colour ≡ o → option_map (refused_at v) (broken_by ps es v o) ≡ None → (c : Side) × KeepsAt ps es v c
  kept_by v None e n = absurd (cc)
  kept_by v (Some c) e n = (c, kept_at ps es v c (side_number _ c e) (unmapped _ _ n))

  pub accepted_keeps : checked ps es ≡ None → KeepsRules ps es
  accepted_keeps n =
      let (a, b) = unless_none _ _ _ n in
      let size = eqb-true (length es) (length ps) a in
      record { size = size; rules = λ v h. kept_by v (side_of (entry_of es v).colour) refl (first_clear (refused_by ps es) (length ps) b v h) }

  pub keeps_accepted : KeepsRules ps es → checked ps es ≡ None
  keeps_accepted keeps =
      cond-true _ _ _ (eq-eqb (length es) (length ps) keeps.size)
      ∙ first_all (refused_by ps es) (length ps) (λ v h.
      let (c, k) = keeps.rules v h in
      ap (λ o. option_map (refused_at v) (broken_by ps es v o)) (number_side _ c k.coloured) ∙ ap (option_map (refused_at v)) (unbroken_at ps es v c k))
