-- Searches over the moves of a position.
use Rattle.std.proofs.Common.{◌≡◌, ℕ, ◌<◌, ◌≤◌, Bool, true, false, Option, Some, None, length, get_or, sym, subst, arith}
use Rattle.std.specs.Bool.{MatchBool}
use Rattle.std.specs.List.{range_with_len, AllWithin, HoldsAt}
use Rattle.std.specs.Option.{MatchOption, unwrap_or}
use Rattle.std.proofs.lemmas.List.FromFn.{length-range_with_len, get_or-range_with_len}
use Rattle.game.specs.First.{all_below}
use Rattle.game.proofs.Firsts.{all_stop, all_decides}
use Rattle.rounds.specs.Below.{any_below, first_true}
use Rattle.rounds.proofs.Belows.{any_from, any_false, first_found, first_none}

at : (n k : ℕ) → k < n → get_or (range_with_len 0 n) k 0 ≡ k
at n k l = let e = get_or-range_with_len 0 n k 0 l in omega arith

-- what any and all answer over the numbers below n
pub any_numbers : (f : ℕ → Bool) (n : ℕ) (r : Bool) → MatchBool r ((k : ℕ) × (k < length (range_with_len 0 n)) × HoldsAt (λ k. f k ≡ true) (range_with_len 0 n) k) (AllWithin (λ k. f k ≡ false) (range_with_len 0 n) 0 (length (range_with_len 0 n))) → r ≡ any_below f n
any_numbers f n true (k, l, h) = let z = length-range_with_len 0 n in sym (any_from f n k (omega arith) (subst (λ k. f k ≡ true) (at n k (omega arith)) (h 0)))
any_numbers f n false h = let z = length-range_with_len 0 n in sym (any_false f n (λ k l. subst (λ k. f k ≡ false) (at n k l) (h k 0 (omega arith) (omega arith))))

pub all_numbers : (f : ℕ → Bool) (n : ℕ) (r : Bool) → MatchBool r (AllWithin (λ k. f k ≡ true) (range_with_len 0 n) 0 (length (range_with_len 0 n))) ((k : ℕ) × (k < length (range_with_len 0 n)) × HoldsAt (λ k. f k ≡ false) (range_with_len 0 n) k) → r ≡ all_below f n
all_numbers f n true h = let z = length-range_with_len 0 n in sym ((all_decides f (λ k. f k ≡ true) (λ k. (λ t. t, λ t. t)) n).1 (λ k l. subst (λ k. f k ≡ true) (at n k l) (h k 0 (omega arith) (omega arith))))
all_numbers f n false (k, l, h) = let z = length-range_with_len 0 n in sym (all_stop f k n (subst (λ k. f k ≡ false) (at n k (omega arith)) (h 0)) (omega arith))

-- the first move that find gives
module _ (f : ℕ → Bool) (n : ℕ) where
  pub found_first : (r : Option ℕ) → MatchOption r ((k : ℕ) → 0 ≤ k → k < n → f k ≡ false) (λ i. (0 ≤ i) × (i < n) × (f i ≡ true) × ((k : ℕ) → 0 ≤ k → k < i → f k ≡ false)) → (unwrap_or r 0 ≤ n) × (unwrap_or r 0 ≡ first_true f n)
  found_first None h = (omega arith, sym (first_none f n (any_false f n (λ k l. h k (omega arith) l))))
  found_first (Some i) (a, l, e, h) = (omega arith, sym (first_found f i n (any_false f i (λ k b. h k (omega arith) b)) e l))
