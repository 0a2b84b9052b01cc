-- Functions of the numbers below n.
use Rattle.std.proofs.Common.{◌≡◌, ℕ, zero, suc, ◌+◌, ◌<◌, ◌≤◌, max, Bool, true, false, cond, ◌||◌, ltb, ◌⊎◌, Decides, sym, refl, ap, ◌∙◌, subst, inl, inr, add-one, arith}
use Rattle.std.proofs.Math.Bool.{or_comm}
use Rattle.std.proofs.lemmas.Bool.{cases_Bool, cases_eq, cases_lt, both_ways, cond-true, cond-false, lt-ltb, le-ltb}
use Rattle.std.proofs.lemmas.Bool.Decides.{Decides-below_or}
use Rattle.game.specs.First.{all_below}
use Rattle.rounds.specs.Below.{any_below, first_true, count_below, sum_below, max_below}

pub any_decides : (f : ℕ → Bool) (P : ℕ → Type 0) → ((k : ℕ) → Decides (f k) (P k)) → (n : ℕ) → Decides (any_below f n) ((k : ℕ) × (k < n) × P k)
unfolding any_below
any_decides f P each n = Decides-below_or f P (any_below f) each refl (λ m. or_comm (any_below f m) (f m)) n

pub any_none : (f : ℕ → Bool) → any_below f 0 ≡ false
unfolding any_below
any_none f = refl

pub any_more : (f : ℕ → Bool) (n : ℕ) → any_below f (n + 1) ≡ (any_below f n || f n)
unfolding any_below
any_more f n = ap (any_below f) (add-one n)

itself : (f : ℕ → Bool) (k : ℕ) → Decides (f k) (f k ≡ true)
itself f k = (λ t. t, λ t. t)

-- some number passes, and which
pub any_at : (f : ℕ → Bool) (n : ℕ) → any_below f n ≡ true → (k : ℕ) × (k < n) × (f k ≡ true)
any_at f n = (any_decides f (λ k. f k ≡ true) (itself f) n).0

pub any_from : (f : ℕ → Bool) (n k : ℕ) → k < n → f k ≡ true → any_below f n ≡ true
any_from f n k h e = (any_decides f (λ k. f k ≡ true) (itself f) n).1 (k, h, e)

-- none passes
pub any_not : (f : ℕ → Bool) (n : ℕ) → any_below f n ≡ false → (k : ℕ) → k < n → f k ≡ false
any_not f n e k h = elim (cases_Bool (f k)) [ inl t ↦ absurd (both_ways _ e (any_from f n k h t)) | inr t ↦ t ]

-- tests that agree below n give the same
pub any_same : (f g : ℕ → Bool) (n : ℕ) → ((k : ℕ) → k < n → f k ≡ g k) → any_below f n ≡ any_below g n
unfolding any_below
any_same f g zero h = refl
any_same f g (suc n) h = let a = any_same f g n (λ k l. h k (omega arith)) in let b = h n (omega arith) in cc

pub all_same : (f g : ℕ → Bool) (n : ℕ) → ((k : ℕ) → k < n → f k ≡ g k) → all_below f n ≡ all_below g n
unfolding all_below
all_same f g zero h = refl
all_same f g (suc n) h = let a = all_same f g n (λ k l. h k (omega arith)) in let b = h n (omega arith) in cc

-- what the first number that passes is
pub record FirstTrue (f : ℕ → Bool) (n k : ℕ) : Type 0 where
  pub below : k < n
  pub passes : f k ≡ true
  pub before : (j : ℕ) → j < k → f j ≡ false

pub first_true_lem : (f : ℕ → Bool) (n : ℕ) → any_below f n ≡ true → FirstTrue f n (first_true f n)
unfolding any_below first_true
first_true_lem f zero e = absurd (both_ways false refl e)
first_true_lem f (suc n) e = by (first_true_lem f n) (any_below f n) refl e
  where
    by : (any_below f n ≡ true → FirstTrue f n (first_true f n)) → (b : Bool) → any_below f n ≡ b → (b || f n) ≡ true → FirstTrue f (suc n) (cond b (first_true f n) (cond (f n) n 0))
    by more true a t = let r = more a in record { below = omega (arith, r.below); passes = r.passes; before = r.before }
    by more false a t = subst (λ (x : ℕ). FirstTrue f (suc n) x) (sym (cond-true (f n) n 0 t)) (record { below = omega arith; passes = t; before = any_not f n a })

-- counting
pub count_most : (f : ℕ → Bool) (n : ℕ) → count_below f n ≤ n
unfolding count_below
count_most f zero = omega arith
count_most f (suc n) = let a = count_most f n in elim (cases_Bool (f n)) [ inl t ↦ let e = cond-true {A = ℕ} (f n) 1 0 t in omega arith | inr t ↦ let e = cond-false {A = ℕ} (f n) 1 0 t in omega arith ]

step : (b c : Bool) → (b ≡ true → c ≡ true) → cond b 1 0 ≤ cond c 1 0
step true c h = let e = cond-true {A = ℕ} c 1 0 (h refl) in omega arith
step false c h = omega arith

pub count_more : (f g : ℕ → Bool) (n : ℕ) → ((k : ℕ) → k < n → f k ≡ true → g k ≡ true) → count_below f n ≤ count_below g n
unfolding count_below
count_more f g zero h = omega arith
count_more f g (suc n) h = let a = count_more f g n (λ k l. h k (omega arith)) in let b = step (f n) (g n) (h n (omega arith)) in omega arith

-- one more passes
pub count_grows : (f g : ℕ → Bool) (n k : ℕ) → ((j : ℕ) → j < n → f j ≡ true → g j ≡ true) → k < n → f k ≡ false → g k ≡ true → count_below f n < count_below g n
unfolding count_below
count_grows f g zero k h l a b = absurd (omega arith)
count_grows f g (suc n) k h l a b = elim (cases_eq k n) [
  | inl e ↦
      let m = count_more f g n (λ j i. h j (omega arith)) in
      let x = cond-false {A = ℕ} (f n) 1 0 (ap f (sym e) ∙ a) in
      let y = cond-true {A = ℕ} (g n) 1 0 (ap g (sym e) ∙ b) in
      omega arith
  | inr e ↦
      let m = count_grows f g n k (λ j i. h j (omega arith)) (omega arith) a b in
      let x = step (f n) (g n) (h n (omega arith)) in
      omega arith
]

pub count_none : (f : ℕ → Bool) → count_below f 0 ≡ 0
unfolding count_below
count_none f = refl

-- all so far pass
pub count_full : (f : ℕ → Bool) (n : ℕ) → count_below f n ≡ n → f n ≡ true → count_below f (n + 1) ≡ n + 1
unfolding count_below
count_full f n e t = ap (count_below f) (add-one n) ∙ ap (λ (x : ℕ). x + cond (f n) 1 0) e ∙ ap (λ (x : ℕ). n + x) (cond-true {A = ℕ} (f n) 1 0 t)

-- and none after
pub count_stop : (f : ℕ → Bool) (n m : ℕ) → count_below f n ≡ n → n ≤ m → ((j : ℕ) → n ≤ j → j < m → f j ≡ false) → count_below f m ≡ n
unfolding count_below
count_stop f n zero e h none = let z : 0 ≡ n = omega arith in z
count_stop f n (suc m) e h none = elim (cases_eq n (suc m)) [
  | inl s ↦ ap (count_below f) (sym s) ∙ e
  | inr s ↦ let a = count_stop f n m e (omega arith) (λ j a b. none j a (omega arith)) in let b = cond-false {A = ℕ} (f m) 1 0 (none m (omega arith) (omega arith)) in omega arith
]

pub any_false : (f : ℕ → Bool) (n : ℕ) → ((k : ℕ) → k < n → f k ≡ false) → any_below f n ≡ false
any_false f n h = elim (cases_Bool (any_below f n)) [ inl t ↦ let (k, l, e) = any_at f n t in absurd (both_ways _ (h k l) e) | inr t ↦ t ]

-- the first number that passes, as a loop finds it
pub first_found : (f : ℕ → Bool) (k n : ℕ) → any_below f k ≡ false → f k ≡ true → k < n → first_true f n ≡ k
unfolding any_below first_true
first_found f k zero a e l = absurd (omega arith)
first_found f k (suc n) a e l = elim (cases_eq k n) [
  | inl s ↦ let b = ap (any_below f) (sym s) ∙ a in cond-false (any_below f n) _ _ b ∙ cond-true (f n) n 0 (ap f (sym s) ∙ e) ∙ sym s
  | inr s ↦ cond-true (any_below f n) _ _ (any_from f n k (omega arith) e) ∙ first_found f k n a e (omega arith)
]

pub first_none : (f : ℕ → Bool) (n : ℕ) → any_below f n ≡ false → first_true f n ≡ 0
unfolding first_true
first_none f zero a = refl
first_none f (suc n) a = cond-false (any_below f n) _ _ (any_false f n (λ k l. any_not f (suc n) a k (omega arith))) ∙ cond-false (f n) n 0 (any_not f (suc n) a n (omega arith))

pub sum_none : (f : ℕ → ℕ) → sum_below f 0 ≡ 0
unfolding sum_below
sum_none f = refl

pub sum_more : (f : ℕ → ℕ) (n : ℕ) → sum_below f (suc n) ≡ sum_below f n + f n
unfolding sum_below
sum_more f n = refl

pub sum_same : (f g : ℕ → ℕ) (n : ℕ) → ((k : ℕ) → f k ≡ g k) → sum_below f n ≡ sum_below g n
unfolding sum_below
sum_same f g zero h = refl
sum_same f g (suc n) h = let a = sum_same f g n h in let b = h n in omega arith

-- the first m numbers pass and no other
pub count_first : (f : ℕ → Bool) (m n : ℕ) → ((k : ℕ) → k < n → f k ≡ ltb k m) → m ≤ n → count_below f n ≡ m
count_first f m n h l = count_stop f m n (upto f m (λ k b. h k (omega arith) ∙ lt-ltb k m b)) l (λ k a b. h k b ∙ le-ltb k m a)
  where
    upto : (f : ℕ → Bool) (m : ℕ) → ((k : ℕ) → k < m → f k ≡ true) → count_below f m ≡ m
    upto f zero h = count_none f
    upto f (suc m) h = ap (count_below f) (sym (add-one m)) ∙ count_full f m (upto f m (λ k b. h k (omega arith))) (h m (omega arith)) ∙ add-one m

-- the highest value is one, or 0, and no value is higher
pub max_upper : (f : ℕ → ℕ) (n k : ℕ) → k < n → f k ≤ max_below f n
unfolding max_below
max_upper f zero k h = absurd (omega arith)
max_upper f (suc n) k h = elim (cases_eq k n) [
  | inl e ↦ let s = ap f e in omega arith
  | inr e ↦ let a = max_upper f n k (omega arith) in omega arith
]

pub max_at : (f : ℕ → ℕ) (n : ℕ) → 1 ≤ max_below f n → (k : ℕ) × (k < n) × (f k ≡ max_below f n)
unfolding max_below
max_at f zero h = absurd (omega arith)
max_at f (suc n) h = by (max_at f n) (cases_lt (max_below f n) (f n))
  where
    by : (1 ≤ max_below f n → (k : ℕ) × (k < n) × (f k ≡ max_below f n)) → (max_below f n < f n) ⊎ (f n ≤ max_below f n) → (k : ℕ) × (k < suc n) × (f k ≡ max (max_below f n) (f n))
    by more (inl b) = (n, omega arith, omega arith)
    by more (inr b) = let (k, l, e) = more (omega arith) in (k, omega arith, omega arith)

pub max_most : (f : ℕ → ℕ) (n m : ℕ) → ((k : ℕ) → f k ≤ m) → max_below f n ≤ m
unfolding max_below
max_most f zero m h = omega arith
max_most f (suc n) m h = let a = max_most f n m h in let b = h n in omega arith

pub max_same : (f g : ℕ → ℕ) (n : ℕ) → ((k : ℕ) → k < n → f k ≡ g k) → max_below f n ≡ max_below g n
unfolding max_below
max_same f g zero h = refl
max_same f g (suc n) h = let a = max_same f g n (λ k l. h k (omega arith)) in let b = h n (omega arith) in cc
