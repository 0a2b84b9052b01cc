use Rattle.std.proofs.Common.{◌≡◌, ℕ, suc, ◌+◌, ◌-◌, ◌<◌, length, ap, ◌∙◌, subst, arith}
use Rattle.rounds.specs.Below.{sum_below}
use Rattle.rounds.specs.Rounds.{rounds_at, rounds_of}
use Rattle.rounds.proofs.Belows.{sum_none, sum_more}
use Rattle.rounds.proofs.Counted.{rounds_most, rounds_ranks}
use Rattle.solver.specs.Stages.{DoneFrom}
use Rattle.solver.proofs.colour.colour_levels.Goals as goal

-- the sum, one level further down
step : (f : ℕ → ℕ) (count done rounds result total : ℕ) → done < count → result ≡ f (count - 1 - done) → rounds + sum_below f (count - done) ≡ total → rounds + result + sum_below f (count - (done + 1)) ≡ total
step f count done rounds result total h r e =
    let more = sum_more f (count - 1 - done) in
    let a = ap (sum_below f) (let z : count - done ≡ suc (count - 1 - done) = omega arith in z) in
    let b = ap (sum_below f) (let z : count - (done + 1) ≡ count - 1 - done = omega arith in z) in
    omega arith

pub colour_level-rounds-requires : goal.colour_level-rounds-requires
colour_level-rounds-requires g c =
    let e : length c.args.sheet.now - c.loop-done.done ≡ suc c.level_after.result = omega (arith, c.level_after.ensures, c.loop-done-test.true) in
    subst (λ (l : ℕ). DoneFrom (g.G.Game.meaning c.args.game.now) l c.loop-done.sheet) e c.loop-done.invariant.0

pub overflow_add-rounds : goal.overflow_add-rounds
overflow_add-rounds g c =
    let ps = g.G.Game.meaning c.args.game.now in
    let s = step (rounds_at ps) (length c.args.sheet.now) c.loop-done.done c.loop-done.rounds c.colour_level-rounds.result (rounds_of ps) c.loop-done-test.true (c.colour_level-rounds.ensures.rounds ∙ ap (rounds_at ps) c.level_after.ensures) c.loop-done.invariant.1 in
    let m = rounds_most ps (g.met.G.Game.lawful c.args.game.now) in
    omega arith

pub loop-done-preserved : goal.loop-done-preserved
loop-done-preserved g c =
    let ps = g.G.Game.meaning c.args.game.now in
    let e : c.level_after.result ≡ length c.args.sheet.now - (c.loop-done.done + 1) = omega (arith, c.level_after.ensures) in (
      subst (λ (l : ℕ). DoneFrom ps l c.colour_level-rounds.new.sheet) e c.colour_level-rounds.ensures.done,
      step (rounds_at ps) (length c.args.sheet.now) c.loop-done.done c.loop-done.rounds c.colour_level-rounds.result (rounds_of ps) c.loop-done-test.true (c.colour_level-rounds.ensures.rounds ∙ ap (rounds_at ps) c.level_after.ensures) c.loop-done.invariant.1,
    )

pub returns : goal.returns
returns g c =
    let ps = g.G.Game.meaning c.args.game.now in
    let none = sum_none (rounds_at ps) in
    let z : length c.args.sheet.now - c.loop-done.done ≡ 0 = omega (arith, c.loop-done-test.false) in
    let end = ap (sum_below (rounds_at ps)) z in
    let sum = c.loop-done.invariant.1 in
    let all : c.loop-done.rounds ≡ rounds_of ps = omega arith in
    record { done = subst (λ (l : ℕ). DoneFrom ps l c.loop-done.sheet) z c.loop-done.invariant.0; rounds = all; ranks = all ∙ rounds_ranks ps (g.met.G.Game.lawful c.args.game.now) }
