-- A run as a function from places to positions: how a win is used.
use Rattle.std.proofs.Common.{◌≡◌, ℕ, suc, ◌<◌, ◌≤◌, List, map, length, sym, ap, ◌∙◌, subst, zero-add, arith}
use Rattle.std.specs.List.{range_with_len}
use Rattle.std.proofs.lemmas.List.FromFn.{length-map-range_with_len, get_or-map-range_with_len}
use Rattle.game.specs.declared.side.Side.{Side}
use Rattle.game.specs.Sides.{opposite}
use Rattle.game.specs.Positions.{Position, position, degree, Leads}
use Rattle.game.specs.Winning.{place, Run, Follows, Wins}

-- f goes n steps, each by a move, and by σ's where c owns the position
pub record Path (ps : List Position) (c : Side) (σ : ℕ → ℕ) (n : ℕ) (f : ℕ → ℕ) : Type 0 where
  pub positions : (i : ℕ) → i ≤ n → f i < length ps
  pub steps : (i : ℕ) → i < n → (k : ℕ) × Leads ps (f i) k (f (suc i))
  pub follows : (i : ℕ) → i < n → (position ps (f i)).owner ≡ c → Leads ps (f i) (σ (f i)) (f (suc i))

pub record GoodPath (ps : List Position) (c : Side) (n : ℕ) (f : ℕ → ℕ) : Type 0 where
  pub moves : (i : ℕ) → i ≤ n → (position ps (f i)).owner ≡ c → 1 ≤ degree ps (f i)
  pub once : (i j : ℕ) → i < j → j ≤ n → f i ≡ f j → (position ps (f i)).kind ≡ opposite c → ⊥

module _ (ps : List Position) (c : Side) (n : ℕ) (f : ℕ → ℕ) where
  run : List ℕ
  run = map f (range_with_len 0 (suc n))

  long : length run ≡ suc n
  unfolding run
  long = length-map-range_with_len f 0 (suc n)

  at_place : (i : ℕ) → i < length run → place run i ≡ f i
  unfolding run
  at_place i h = let l = long in get_or-map-range_with_len f 0 (suc n) i i 0 (omega arith) (zero-add i)

  module _ (σ : ℕ → ℕ) (p : Path ps c σ n f) where
    listed : Run ps (f 0) run
    listed = let l = long in record {
      some = omega arith;
      first = at_place 0 (omega arith);
      positions = λ i h. subst (λ (u : ℕ). u < length ps) (sym (at_place i h)) (p.positions i (omega arith));
      steps = λ i h.
          let a = at_place i (omega arith) in
          let b = at_place (suc i) h in
          let s = p.steps i (omega arith) in
          (s.0, subst (λ (w : ℕ). Leads ps (place run i) s.0 w) (sym b) (subst (λ (u : ℕ). Leads ps u s.0 (f (suc i))) (sym a) s.1));
    }

    followed : Follows ps c σ run
    followed i h o =
        let l = long in
        let a = at_place i (omega arith) in
        let b = at_place (suc i) h in
        let s = p.follows i (omega arith) (ap (λ (u : ℕ). (position ps u).owner) (sym a) ∙ o) in
        subst (λ (w : ℕ). Leads ps (place run i) (σ (place run i)) w) (sym b) (subst (λ (u : ℕ). Leads ps u (σ u) (f (suc i))) (sym a) s)

  pub good_path : (w : Wins ps c (f 0)) → Path ps c w.σ n f → GoodPath ps c n f
  good_path w p =
      let l = long in
      let g = w.wins run (listed w.σ p) (followed w.σ p) in
      record {
        moves = λ i h o. let a = at_place i (omega arith) in subst (λ (u : ℕ). 1 ≤ degree ps u) a (g.moves i (omega arith) (ap (λ (u : ℕ). (position ps u).owner) a ∙ o));
        once = λ i j b h e k. let a = at_place i (omega arith) in g.once i j b (omega arith) (a ∙ e ∙ sym (at_place j (omega arith))) (ap (λ (u : ℕ). (position ps u).kind) a ∙ k);
      }
