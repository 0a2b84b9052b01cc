-- Searches over the numbers below n.
use Rattle.std.specs.Prelude.{ℕ, zero, suc, Bool, true, cond, ◌&&◌, Some, None, Option}
use Rattle.std.specs.Option.{option_or}

-- The answer x unless a test holds; then later tests decide.
abbrev pub unless : {F : Type 0} → Bool → F → Option F → Option F
unless holds x later = cond holds later (Some x)

-- The first answer that f gives at 0, 1, .., n - 1.
unfoldable pub first_below : {F : Type 0} → (ℕ → Option F) → ℕ → Option F
first_below f zero = None
first_below f (suc n) = option_or (first_below f n) (f n)

-- Whether f holds of 0, 1, .., n - 1.
unfoldable pub all_below : (ℕ → Bool) → ℕ → Bool
all_below f zero = true
all_below f (suc n) = all_below f n && f n
