-- The numbers that digits write.
use Rattle.std.proofs.Common.{◌≡◌, ℕ, ◌+◌, ◌-◌, ◌*◌, ◌<◌, ◌≤◌, List, [], ◌∷◌, length, get_or, take, drop, Some, None, ap, nat_le, arith}
use Rattle.std.specs.List.{fold}
use Rattle.std.specs.Bool.{then_some}
use Rattle.std.proofs.lemmas.List.{take-append-drop}
use Rattle.std.proofs.lemmas.List.Sums.{fold-append, fold_more}
use Rattle.std.proofs.lemmas.Bool.Decides.{nat_tests}
use Rattle.text.specs.Tokens.{numeral, most_number}

-- one digit more
abbrev digit_more : ℕ → ℕ → ℕ
digit_more v b = 10 * v + (b - 48)

-- digits after a number only raise it
no_less : (ds : List ℕ) (v : ℕ) → v ≤ fold digit_more v ds
no_less [] v = omega arith
no_less (d ∷ ds) v = omega (arith, no_less ds (digit_more v d))

-- so no front writes more than the whole
front_le : (ds : List ℕ) (i : ℕ) → i < length ds → digit_more (numeral (take i ds)) (get_or ds i 0) ≤ numeral ds
front_le ds i h =
    let more = fold_more digit_more 0 ds i 0 h in
    let whole = fold-append digit_more 0 (take (i + 1) ds) (drop (i + 1) ds) in
    let parts = ap numeral (take-append-drop (i + 1) ds) in
    let rises = no_less (drop (i + 1) ds) (numeral (take (i + 1) ds)) in
    omega arith

pub too_large : (ds : List ℕ) (i : ℕ) → i < length ds → most_number < 10 * numeral (take i ds) + (get_or ds i 0 - 48) → then_some (nat_le (numeral ds) most_number) (numeral ds) ≡ None
too_large ds i h large = let most = front_le ds i h in grind (arith, nat_tests)

pub not_too_large : (ds : List ℕ) (v : ℕ) → v ≤ most_number → v ≡ numeral ds → then_some (nat_le (numeral ds) most_number) (numeral ds) ≡ Some v
not_too_large ds v small is = grind (arith, nat_tests)
