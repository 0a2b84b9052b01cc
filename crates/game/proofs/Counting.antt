-- The moves that count, as a loop goes over them.
use Rattle.std.proofs.Common.{◌≡◌, ℕ, zero, suc, ◌+◌, Bool, true, false, cond, ◌&&◌, List, Option, [], ◌∷◌, ◌++◌, map, sym, refl, ap, ◌∙◌, add-one, arith}
use Rattle.std.specs.List.{range_with_len, list_all}
use Rattle.std.specs.declared.ops.Range.{Range}
use Rattle.std.proofs.iter.Yields.{nat_range_steps}
use Rattle.std.proofs.Math.Bool.{and-true}
use Rattle.std.proofs.lemmas.Iterator.{YieldsList, YieldsList-from_range}
use Rattle.std.proofs.lemmas.List.Folds.{list_all-append, list_all-map}
use Rattle.std.proofs.lemmas.List.FromFn.{map-range_with_len_more}
use Rattle.std.specs.Fn.{Called}
use Rattle.std.specs.Iterator.{YieldsThen}
use Rattle.std.specs.List.{FoldsTo}
use Rattle.std.specs.Option.{MatchOption}
use Rattle.std.proofs.lemmas.Iterator.Search.{all_from_yields_List}
use denote.Param.Members.{Mut}
use Rattle.game.specs.First.{all_below}
use Rattle.game.specs.Checking.{each_counting, counting}

-- the moves that count, one after another
abbrev pub counted : Bool → ℕ → ℕ → List ℕ
counted own choice n = cond own (choice ∷ []) (range_with_len 0 n)

pub counting_yields : {s : Range ℕ} (own : Bool) (choice n : ℕ) → s ≡ counting own choice n → YieldsList nat_range_steps (λ x. x) s (counted own choice n)
counting_yields true choice n e = YieldsList-from_range choice (choice + 1) 1 e (omega arith)
counting_yields false choice n e = YieldsList-from_range 0 n n e (omega arith)

all_mapped : (f : ℕ → Bool) (n : ℕ) → list_all (λ b. b) (map f (range_with_len 0 n)) ≡ all_below f n
unfolding all_below
all_mapped f zero = refl
all_mapped f (suc n) =
    let more : map f (range_with_len 0 (suc n)) ≡ map f (range_with_len 0 n) ++ f n ∷ [] = ap (λ (m : ℕ). map f (range_with_len 0 m)) (sym (add-one n)) ∙ map-range_with_len_more f 0 n n (omega arith) in
    let last : list_all (λ b. b) (f n ∷ []) ≡ f n = and-true (f n) in
    cc (more, last, list_all-append (λ b. b) (map f (range_with_len 0 n)) (f n ∷ []), all_mapped f n)

pub all_counted : (f : ℕ → Bool) (own : Bool) (choice n : ℕ) → list_all f (counted own choice n) ≡ each_counting own choice n f
all_counted f true choice n = and-true (f choice)
all_counted f false choice n = sym (list_all-map (λ b. b) f (range_with_len 0 n)) ∙ all_mapped f n

-- what `all` answers over the moves that count, by a closure that makes the test
pub all_counting : {F : Type 0} {g : Mut F (ℕ × Unit {0}) Bool} {s u : Range ℕ} {e : F} {r : Bool} (own : Bool) (choice n : ℕ) (test : ℕ → Bool) → s ≡ counting own choice n
    → (xs : List ℕ) × (o : Option ℕ) × (j : F) × YieldsThen nat_range_steps s xs o u × FoldsTo (λ p x q. Called g p (x, tt) true q) e xs j × MatchOption o (r ≡ true) (λ x. (r ≡ false) × ((h : F) × Called g j (x, tt) false h))
    → ((x : ℕ) (b : Bool) (q : F) → Called g e (x, tt) b q → (q ≡ e) × (b ≡ test x)) → r ≡ each_counting own choice n test
all_counting {u = u} {e = e} {r = r} own choice n test is ran makes = all_from_yields_List test u e r ran (counting_yields own choice n is) makes ∙ all_counted test own choice n

and_cross : (a b c d : Bool) → ((a && b) && (c && d)) ≡ ((a && c) && (b && d))
and_cross false b c d = refl
and_cross true b true d = refl
and_cross true true false d = refl
and_cross true false false d = refl

all_both : (f g : ℕ → Bool) (n : ℕ) → all_below (λ k. f k && g k) n ≡ (all_below f n && all_below g n)
unfolding all_below
all_both f g zero = refl
all_both f g (suc n) = ap (λ b. b && (f n && g n)) (all_both f g n) ∙ and_cross (all_below f n) (all_below g n) (f n) (g n)

-- two tests of each move that counts, in one
pub each_both : (f g : ℕ → Bool) (own : Bool) (choice n : ℕ) → each_counting own choice n (λ k. f k && g k) ≡ (each_counting own choice n f && each_counting own choice n g)
each_both f g true choice n = refl
each_both f g false choice n = all_both f g n
