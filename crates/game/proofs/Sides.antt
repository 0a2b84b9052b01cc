-- Facts about the two sides.
use Rattle.std.proofs.Common.{◌≡◌, ℕ, Bool, true, false, cond, ◌⊎◌, Some, Decides, sym, refl, ap, ◌∙◌, inl, inr, arith}
use Rattle.std.proofs.lemmas.Bool.Decides.{nat_tests}
use denote.Enum.Bare.{sameb}
use Rattle.game.specs.contracts.side.Side.{the_type}
use Rattle.game.specs.declared.side.Side.{Side}
use Rattle.game.specs.declared.side.Side.TheVariants.{Green, Red}
use Rattle.game.specs.Sides.{opposite, number_of, side_of, same}

pub cases_side : (c d : Side) → (d ≡ c) ⊎ (d ≡ opposite c)
cases_side Green Green = inl refl
cases_side Green Red = inr refl
cases_side Red Green = inr refl
cases_side Red Red = inl refl

pub apart : (c : Side) → c ≡ opposite c → ⊥
apart Green e = cc
apart Red e = cc

pub number_same : (c d : Side) → number_of c ≡ number_of d → c ≡ d
number_same Green Green e = refl
number_same Green Red e = absurd (omega arith)
number_same Red Green e = absurd (omega arith)
number_same Red Red e = refl

pub side_number : (n : ℕ) (c : Side) → side_of n ≡ Some c → n ≡ number_of c
side_number n Green e = grind (arith, nat_tests)
side_number n Red e = grind (arith, nat_tests)

pub number_side : (n : ℕ) (c : Side) → n ≡ number_of c → side_of n ≡ Some c
number_side n Green e = ap side_of e
number_side n Red e = ap side_of e

pub own_same : (c d : Side) → d ≡ c → same c d ≡ true
own_same Green d e = ap (same Green) e
own_same Red d e = ap (same Red) e

pub other_same : (c d : Side) → d ≡ opposite c → same c d ≡ false
other_same Green d e = ap (same Green) e
other_same Red d e = ap (same Red) e

-- what `==` says of a and a side that is d
pub same_is : (r : Bool) (a b d : Side) → r ≡ sameb the_type a b → b ≡ d → r ≡ same a d
same_is r Green Green d e s = e ∙ sym (own_same Green d (sym s))
same_is r Green Red d e s = e ∙ sym (other_same Green d (sym s))
same_is r Red Green d e s = e ∙ sym (other_same Red d (sym s))
same_is r Red Red d e s = e ∙ sym (own_same Red d (sym s))

-- a test that asks one thing of c's side and another of the other side
pub side_decides : (c d : Side) (x y : Bool) (P Q : Type 0) → Decides x P → Decides y Q → Decides (cond (same c d) x y) ((d ≡ c → P) × (d ≡ opposite c → Q))
side_decides c d x y P Q p q = elim (cases_side c d) [
  | inl e ↦ let s : cond (same c d) x y ≡ x = ap (λ b. cond b x y) (own_same c d e) in
      (λ t. (λ _. p.0 (sym s ∙ t), λ o. absurd (apart c (sym e ∙ o))), λ h. s ∙ p.1 (h.0 e))
  | inr e ↦ let s : cond (same c d) x y ≡ y = ap (λ b. cond b x y) (other_same c d e) in
      (λ t. (λ o. absurd (apart c (sym o ∙ e)), λ _. q.0 (sym s ∙ t)), λ h. s ∙ q.1 (h.1 e))
]

pub same_true : (c d : Side) → same c d ≡ true → c ≡ d
same_true c d e = elim (cases_side c d) [ inl h ↦ sym h | inr h ↦ let o = other_same c d h in absurd (cc) ]

-- a side that is not the one against k is k
pub same_false : (k d : Side) → same (opposite k) d ≡ false → d ≡ k
same_false Green Green e = refl
same_false Green Red e = absurd (cc)
same_false Red Green e = absurd (cc)
same_false Red Red e = refl
