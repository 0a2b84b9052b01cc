-- Of n + 1 numbers below n, two are equal.
use Rattle.std.proofs.Common.{◌≡◌, ℕ, zero, suc, ◌<◌, ◌≤◌, cond, eqb, ◌⊎◌, sym, ap, ◌∙◌, inl, inr, arith}
use Rattle.std.proofs.lemmas.Bool.{cases_eq}
use Rattle.std.proofs.lemmas.Bool.Decides.{nat_tests}

-- two places up to n with equal values
pub record Twice (f : ℕ → ℕ) (n : ℕ) : Type 0 where
  pub i : ℕ
  pub j : ℕ
  pub before : i < j
  pub until : j ≤ n
  pub same : f i ≡ f j

-- a place below m with value x, or that there is none
abbrev Found : (ℕ → ℕ) → ℕ → ℕ → Type 0
Found f x m = ((i : ℕ) × (i < m) × (f i ≡ x)) ⊎ ((i : ℕ) → i < m → f i ≡ x → ⊥)

find : (f : ℕ → ℕ) (x m : ℕ) → Found f x m
find f x zero = inr (λ i h e. omega arith)
find f x (suc m) = by (find f x m) (cases_eq (f m) x)
  where
    by : Found f x m → (f m ≡ x) ⊎ (f m ≡ x → ⊥) → Found f x (suc m)
    by (inl w) d = inl (w.0, omega arith, w.2)
    by (inr n) (inl e) = inl (m, omega arith, e)
    by (inr n) (inr d) = inr (λ i h e. elim (cases_eq i m) [ inl s ↦ d (ap f (sym s) ∙ e) | inr s ↦ n i (omega arith) e ])

-- f with the value n replaced by y
abbrev replaced : (ℕ → ℕ) → ℕ → ℕ → ℕ → ℕ
replaced f n y i = cond (eqb (f i) n) y (f i)

pub twice : (n : ℕ) (f : ℕ → ℕ) → ((i : ℕ) → i ≤ n → f i < n) → Twice f n
twice zero f low = let h = low 0 (omega arith) in absurd (omega arith)
twice (suc n) f low = by (find f (f (suc n)) (suc n)) (twice n (replaced f n (f (suc n))))
  where
    by : Found f (f (suc n)) (suc n) → (((i : ℕ) → i ≤ n → replaced f n (f (suc n)) i < n) → Twice (replaced f n (f (suc n))) n) → Twice f (suc n)
    by (inl w) more = record { i = w.0; j = suc n; before = w.1; until = omega arith; same = w.2 }
    by (inr new) more = back (more small)
      where
        small : (i : ℕ) → i ≤ n → replaced f n (f (suc n)) i < n
        small i h = let a = low i (omega arith) in let b = low (suc n) (omega arith) in let d = new i (omega arith) in grind (arith, nat_tests)

        back : Twice (replaced f n (f (suc n))) n → Twice f (suc n)
        back t =
            let a = new t.i (omega (arith, t.before, t.until)) in
            let b = new t.j (omega (arith, t.until)) in
            let s = t.same in
            record { i = t.i; j = t.j; before = t.before; until = omega (arith, t.until); same = grind (arith, nat_tests) }
