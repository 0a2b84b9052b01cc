-- Searches over the numbers below n: a loop's start, its step and its end, and what the answer says of each number.
use Rattle.std.proofs.Common.{◌≡◌, ℕ, zero, suc, ◌+◌, ◌<◌, Bool, true, false, ◌&&◌, Some, None, Decides, Option, sym, refl, ap, ◌∙◌, inl, inr, add-one, arith}
use Rattle.std.proofs.Math.Bool.{and_comm}
use Rattle.std.proofs.lemmas.Bool.{cases_eq, and_cases, and_from, and_left, and_right}
use Rattle.std.proofs.lemmas.Bool.Decides.{Decides-below_and}
use Rattle.std.specs.Option.{option_or}
use Rattle.game.specs.First.{unless, first_below, all_below}

pub all_none : (f : ℕ → Bool) → all_below f 0 ≡ true
unfolding all_below
all_none f = refl

pub all_more : (f : ℕ → Bool) (n : ℕ) → all_below f (n + 1) ≡ (all_below f n && f n)
unfolding all_below
all_more f n = ap (all_below f) (add-one n)

pub all_decides : (f : ℕ → Bool) (P : ℕ → Type 0) → ((k : ℕ) → Decides (f k) (P k)) → (n : ℕ) → Decides (all_below f n) ((k : ℕ) → k < n → P k)
unfolding all_below
all_decides f P each n = Decides-below_and f P (all_below f) each refl (λ m. and_comm (all_below f m) (f m)) n

-- a loop that stops at the first number that fails
module _ (f : ℕ → Bool) where
  pub all_step : (n : ℕ) → all_below f n ≡ true → f n ≡ true → all_below f (n + 1) ≡ true
  all_step n e h = all_more f n ∙ and_from (all_below f n) (f n) e h

  pub all_stop : (i n : ℕ) → f i ≡ false → i < n → all_below f n ≡ false
  unfolding all_below
  all_stop i zero e l = absurd (omega arith)
  all_stop i (suc n) e l = elim (cases_eq i n) [
    | inl s ↦ and_right (all_below f n) (f n) (ap f (sym s) ∙ e)
    | inr s ↦ and_left (all_below f n) (f n) (all_stop i n e (omega arith))
  ]

  pub all_at : (n : ℕ) → all_below f n ≡ true → (i : ℕ) → i < n → f i ≡ true
  all_at n e = (all_decides f (λ k. f k ≡ true) (λ k. (λ t. t, λ t. t)) n).0 e

  pub all_not : (n : ℕ) → all_below f n ≡ false → (i : ℕ) × (i < n) × (f i ≡ false)
  unfolding all_below
  all_not zero e = absurd (cc)
  all_not (suc n) e = elim (and_cases (all_below f n) (f n) e) [
    | inl a ↦ let (i, l, h) = all_not n a in (i, omega arith, h)
    | inr b ↦ (n, omega arith, b)
  ]

-- where there is no answer the test holds, and there is no later answer
pub unless_none : {F : Type 0} (b : Bool) (x : F) (o : Option F) → unless b x o ≡ None → (b ≡ true) × (o ≡ None)
unless_none true x o e = (refl, e)
unless_none false x o e = absurd (cc)

none_both : {F : Type 0} (a b : Option F) → option_or a b ≡ None → (a ≡ None) × (b ≡ None)
none_both None b e = (refl, e)
none_both (Some x) b e = absurd (cc)

module _ {F : Type 0} (f : ℕ → Option F) where
  pub first_none : first_below f 0 ≡ None
  unfolding first_below
  first_none = refl

  -- nothing at n: the search goes on
  pub first_more : (n : ℕ) → first_below f n ≡ None → f n ≡ None → first_below f (n + 1) ≡ None
  unfolding first_below
  first_more n e h = ap (first_below f) (add-one n) ∙ ap (λ (o : Option F). option_or o (f n)) e ∙ h

  -- what is found first stays the answer
  pub first_found : (i n : ℕ) (x : F) → first_below f i ≡ None → f i ≡ Some x → i < n → first_below f n ≡ Some x
  unfolding first_below
  first_found i zero x e h l = absurd (omega arith)
  first_found i (suc n) x e h l = elim (cases_eq i n) [
    | inl s ↦ ap (λ (o : Option F). option_or o (f n)) (ap (first_below f) (sym s) ∙ e) ∙ ap f (sym s) ∙ h
    | inr s ↦ ap (λ (o : Option F). option_or o (f n)) (first_found i n x e h (omega arith))
  ]

  pub first_clear : (n : ℕ) → first_below f n ≡ None → (i : ℕ) → i < n → f i ≡ None
  unfolding first_below
  first_clear zero e i l = absurd (omega arith)
  first_clear (suc n) e i l =
      let (a, b) = none_both (first_below f n) (f n) e in
      elim (cases_eq i n) [ inl s ↦ ap f s ∙ b | inr s ↦ first_clear n a i (omega arith) ]

  pub first_all : (n : ℕ) → ((i : ℕ) → i < n → f i ≡ None) → first_below f n ≡ None
  unfolding first_below
  first_all zero h = refl
  first_all (suc n) h = ap (λ (o : Option F). option_or o (f n)) (first_all n (λ i l. h i (omega arith))) ∙ h n (omega arith)
