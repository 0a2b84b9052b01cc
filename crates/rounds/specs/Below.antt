-- Functions of the numbers below n.
use Rattle.std.specs.Prelude.{ℕ, zero, suc, ◌+◌, max, Bool, false, cond, ◌||◌}

-- Whether f holds of some number below n.
unfoldable pub any_below : (ℕ → Bool) → ℕ → Bool
any_below f zero = false
any_below f (suc n) = any_below f n || f n

-- The first number below n of which f holds, or 0 where it holds of none.
unfoldable pub first_true : (ℕ → Bool) → ℕ → ℕ
first_true f zero = 0
first_true f (suc n) = cond (any_below f n) (first_true f n) (cond (f n) n 0)

-- Of how many numbers below n f holds.
unfoldable pub count_below : (ℕ → Bool) → ℕ → ℕ
count_below f zero = 0
count_below f (suc n) = count_below f n + cond (f n) 1 0

-- The sum of f over the numbers below n.
unfoldable pub sum_below : (ℕ → ℕ) → ℕ → ℕ
sum_below f zero = 0
sum_below f (suc n) = sum_below f n + f n

-- The highest value of f at the numbers below n.
unfoldable pub max_below : (ℕ → ℕ) → ℕ → ℕ
max_below f zero = 0
max_below f (suc n) = max (max_below f n) (f n)
