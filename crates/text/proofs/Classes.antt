-- Facts about classes.
use Rattle.std.proofs.Common.{◌≡◌, ℕ, true, false, cond, eqb, sym, refl, ap, ◌∙◌}
use Rattle.std.proofs.lemmas.Bool.{eqb-true, eq-eqb}
use Rattle.text.specs.declared.class.Class.{Class}
use Rattle.text.specs.declared.class.Class.TheVariants.{Opening, Closing, Space, LineFeed, Digit, Letter, Other}
use Rattle.text.specs.Classes.{class_of, order_of, of_class}

-- the class at a place in the order
class_at : ℕ → Class
class_at d = cond (eqb d 0) Opening (cond (eqb d 1) Closing (cond (eqb d 2) Space (cond (eqb d 3) LineFeed (cond (eqb d 4) Digit (cond (eqb d 5) Letter Other)))))

class_at_lem : (k : Class) → class_at (order_of k) ≡ k
unfolding class_at
class_at_lem Opening = refl
class_at_lem Closing = refl
class_at_lem Space = refl
class_at_lem LineFeed = refl
class_at_lem Digit = refl
class_at_lem Letter = refl
class_at_lem Other = refl

pub class_is : (k : Class) (b : ℕ) → of_class k b ≡ true → class_of b ≡ k
class_is k b e = sym (class_at_lem (class_of b)) ∙ ap class_at (eqb-true _ _ e) ∙ class_at_lem k

pub of_class_lem : (k : Class) (b : ℕ) → class_of b ≡ k → of_class k b ≡ true
of_class_lem k b e = eq-eqb _ _ (ap order_of e)

-- any other class is no space
pub no_space : (k : Class) → (k ≡ Space → ⊥) → eqb (order_of k) (order_of Space) ≡ false
no_space Opening other = refl
no_space Closing other = refl
no_space Space other = absurd (other refl)
no_space LineFeed other = refl
no_space Digit other = refl
no_space Letter other = refl
no_space Other other = refl
