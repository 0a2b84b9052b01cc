-- The two sides never both win from one position.
use Rattle.std.proofs.Common.{ℕ, zero, suc, ◌<◌, ◌≤◌, List, length, sym, refl, ap, subst, inl, inr, arith}
use Rattle.std.proofs.lemmas.Bool.{cases_eq}
use Rattle.game.specs.declared.side.Side.{Side}
use Rattle.game.specs.declared.side.Side.TheVariants.{Green, Red}
use Rattle.game.specs.Positions.{Position, position, degree, target, Leads}
use Rattle.game.specs.Laws.{Lawful}
use Rattle.game.specs.Winning.{Wins}
use Rattle.game.proofs.Sides.{cases_side}
use Rattle.game.proofs.Pigeonhole.{twice}
use Rattle.game.proofs.Paths.{GoodPath, good_path}

abbrev choose : Side → ℕ → ℕ → ℕ
choose Green a b = a
choose Red a b = b

module _ (ps : List Position) (lawful : Lawful ps) (v : ℕ) (g : Wins ps Green v) (r : Wins ps Red v) where
  -- the move that the owner's strategy makes at u
  move : ℕ → ℕ
  move u = choose (position ps u).owner (g.σ u) (r.σ u)

  -- both sides follow their strategies from v
  path : ℕ → ℕ
  path zero = v
  path (suc i) = target ps (path i) (move (path i))

  -- the first n moves are there
  abbrev Going : ℕ → Type 0
  Going n = (i : ℕ) → i < n → move (path i) < degree ps (path i)

  leads : (n : ℕ) → Going n → (i : ℕ) → i < n → Leads ps (path i) (move (path i)) (path (suc i))
  unfolding path
  leads n e i l = record { there = e i l; to = refl }

  within : (n : ℕ) → Going n → (i : ℕ) → i ≤ n → path i < length ps
  unfolding path
  within n e zero l = g.here
  within n e (suc i) l = lawful.bounded.targets (path i) (move (path i)) (path (suc i)) (leads n e i l)

  green : (n : ℕ) → Going n → GoodPath ps Green n path
  unfolding path move
  green n e = good_path ps Green n path g (record {
    positions = within n e;
    steps = λ i l. (move (path i), leads n e i l);
    follows = λ i l o. subst (λ (k : ℕ). Leads ps (path i) k (path (suc i))) (ap (λ (c : Side). choose c (g.σ (path i)) (r.σ (path i))) o) (leads n e i l);
  })

  red : (n : ℕ) → Going n → GoodPath ps Red n path
  unfolding path move
  red n e = good_path ps Red n path r (record {
    positions = within n e;
    steps = λ i l. (move (path i), leads n e i l);
    follows = λ i l o. subst (λ (k : ℕ). Leads ps (path i) k (path (suc i))) (ap (λ (c : Side). choose c (g.σ (path i)) (r.σ (path i))) o) (leads n e i l);
  })

  -- the owner has a move, so play goes on
  last : (n : ℕ) → Going n → move (path n) < degree ps (path n)
  unfolding move
  last n e =
      let b = within n e n (omega arith) in
      elim (cases_side Green (position ps (path n)).owner) [
        | inl o ↦ subst (λ (k : ℕ). k < degree ps (path n)) (sym (ap (λ (c : Side). choose c (g.σ (path n)) (r.σ (path n))) o)) (g.strategy (path n) b o ((green n e).moves n (omega arith) o))
        | inr o ↦ subst (λ (k : ℕ). k < degree ps (path n)) (sym (ap (λ (c : Side). choose c (g.σ (path n)) (r.σ (path n))) o)) (r.strategy (path n) b o ((red n e).moves n (omega arith) o))
      ]

  going : (n : ℕ) → Going n
  going zero i l = absurd (omega arith)
  going (suc n) i l = elim (cases_eq i n) [ inl e ↦ subst (λ (j : ℕ). move (path j) < degree ps (path j)) (sym e) (last n (going n)) | inr e ↦ going n i (omega arith) ]

  -- some position comes twice, and it is of the kind of one side, against the other
  pub exclusive : ⊥
  exclusive =
      let e = going (length ps) in
      let t = twice (length ps) path (within (length ps) e) in
      elim (cases_side Green (position ps (path t.i)).kind) [
        | inl k ↦ (red (length ps) e).once t.i t.j t.before t.until t.same k
        | inr k ↦ (green (length ps) e).once t.i t.j t.before t.until t.same k
      ]
