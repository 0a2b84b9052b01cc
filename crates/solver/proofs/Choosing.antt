-- The choices, once colours and ranks are final.
use Rattle.std.proofs.Common.{◌≡◌, ℕ, ◌-◌, ◌<◌, ◌≤◌, true, false, ◌&&◌, eqb, leb, List, length, sym, refl, ap, ◌∙◌, inl, inr, arith}
use Rattle.std.proofs.lemmas.Bool.{cases_Bool, cond-true, cond-false, eq-eqb, ne_eqb}
use Rattle.game.specs.declared.side.Side.{Side}
use Rattle.game.specs.declared.side.Side.TheVariants.{Green, Red}
use Rattle.game.specs.declared.sheet.Entry.{Entry}
use Rattle.game.specs.Sides.{number_of, same}
use Rattle.game.specs.Positions.{Position, position, degree, target}
use Rattle.game.specs.Laws.{Lawful}
use Rattle.game.specs.Sheets.{entry_of}
use Rattle.rounds.specs.Below.{first_true}
use Rattle.rounds.specs.Rounds.{leads_already, taken, colour_of, rank_of, suits, choice_of}
use Rattle.rounds.proofs.Levels.{colour_is}
use Rattle.rounds.proofs.Ranks.{rank_none, rank_some, rank_says}
use Rattle.solver.specs.Stages.{DoneFrom, Readable}

number_same : (c d : Side) → eqb (number_of d) (number_of c) ≡ same c d
number_same Green Green = refl
number_same Green Red = refl
number_same Red Green = refl
number_same Red Red = refl

module _ (ps : List Position) (lawful : Lawful ps) (es : List Entry) (done : DoneFrom ps 0 es) where
  final_colour : (v : ℕ) → v < length ps → (entry_of es v).colour ≡ number_of (colour_of ps v)
  final_colour v h = (done.marked v h (omega arith)).colour ∙ ap number_of (sym (colour_is ps lawful v h))

  pub done_readable : (l n : ℕ) → n ≤ length ps → Readable ps l n es
  done_readable l n m = record {
    sized = done.sized;
    above = λ w h up. final_colour w h;
    level = λ w h e. rank_says ps (colour_of ps) (length ps) n w m ∙ ap (λ (r : ℕ). leb 1 r && leb r n) (sym (done.marked w h (omega arith)).rank);
  }

  module _ (v : ℕ) (h : v < length ps) where
    rank_is : (entry_of es v).rank ≡ rank_of ps v
    rank_is = (done.marked v h (omega arith)).rank

    pub rank_most : (entry_of es v).rank ≤ length ps
    rank_most = let e = rank_is in elim (cases_Bool (taken ps (length ps) v)) [
      | inl t ↦ let m = (rank_some ps (colour_of ps) (length ps) v t).most in omega arith
      | inr t ↦ let z = rank_none ps (colour_of ps) (length ps) v t in omega arith
    ]

    untaken : (entry_of es v).rank ≡ 0 → taken ps (length ps) v ≡ false
    untaken z = elim (cases_Bool (taken ps (length ps) v)) [
      | inl t ↦ let m = (rank_some ps (colour_of ps) (length ps) v t).some in let e = rank_is in absurd (omega arith)
      | inr t ↦ t
    ]

    was_taken : ((entry_of es v).rank ≡ 0 → ⊥) → taken ps (length ps) v ≡ true
    was_taken z = elim (cases_Bool (taken ps (length ps) v)) [
      | inl t ↦ t
      | inr t ↦ absurd (z (rank_is ∙ rank_none ps (colour_of ps) (length ps) v t))
    ]

    pub suits_same : (k w : ℕ) → w ≡ target ps v k → w < length ps → (entry_of es v).rank ≡ 0 → eqb (entry_of es w).colour (entry_of es v).colour ≡ suits ps v k
    suits_same k w e b z =
        ap (λ (n : ℕ). eqb n (entry_of es v).colour) (final_colour w b) ∙ ap (eqb (number_of (colour_of ps w))) (final_colour v h) ∙ number_same (colour_of ps v) (colour_of ps w)
        ∙ ap (λ (x : ℕ). same (colour_of ps v) (colour_of ps x)) e ∙ sym (cond-false _ _ _ (untaken z))

    pub suits_led : (k : ℕ) → ((entry_of es v).rank ≡ 0 → ⊥) → leads_already ps (colour_of ps) (taken ps ((entry_of es v).rank - 1)) v k ≡ suits ps v k
    suits_led k z = ap (λ (r : ℕ). leads_already ps (colour_of ps) (taken ps (r - 1)) v k) rank_is ∙ sym (cond-true _ _ _ (was_taken z))

    owns : eqb (number_of (position ps v).owner) (entry_of es v).colour ≡ same (colour_of ps v) (position ps v).owner
    owns = ap (eqb (number_of (position ps v).owner)) (final_colour v h) ∙ number_same (colour_of ps v) (position ps v).owner

    pub choice_own : (n : ℕ) → n ≡ number_of (position ps v).owner → n ≡ (entry_of es v).colour → first_true (suits ps v) (degree ps v) ≡ choice_of ps v
    choice_own n a e = sym (cond-true _ _ _ (sym owns ∙ eq-eqb _ _ (sym a ∙ e)))

    pub choice_other : (n : ℕ) → n ≡ number_of (position ps v).owner → (n ≡ (entry_of es v).colour → ⊥) → 0 ≡ choice_of ps v
    choice_other n a e = sym (cond-false _ _ _ (sym owns ∙ ne_eqb _ _ (λ s. e (a ∙ s))))
