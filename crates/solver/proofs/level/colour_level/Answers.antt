use Rattle.std.proofs.Common.{◌≡◌, ℕ, suc, ◌<◌, length, sym, ◌∙◌, subst, add-one, arith}
use Rattle.std.proofs.lemmas.Bool.{not-true, not-false}
use Rattle.rounds.specs.Rounds.{adds, colour_of}
use Rattle.rounds.proofs.Belows.{count_none, count_full, count_stop}
use Rattle.rounds.proofs.Taking.{still_if, still_later, none_later}
use Rattle.solver.specs.Stages.{Stage, AllTaken}
use Rattle.solver.proofs.Stages.{level_done, none_added}
use Rattle.solver.proofs.level.colour_level.Goals as goal

pub loop-n-init : goal.loop-n-init
loop-n-init g c =
    let ps = g.G.Game.meaning c.args.game.now in
    (c.clear-left.ensures.stage, count_none _, λ left. subst (λ (i : ℕ). AllTaken ps c.args.level 0 i) c.requires.sized (c.clear-left.ensures.left left))

pub loop-n-preserved : goal.loop-n-preserved
loop-n-preserved g c =
    let ps = g.G.Game.meaning c.args.game.now in
    let n = c.loop-n.n in
    let step = c.round-step in
    let size : length c.loop-n.sheet ≡ length ps = c.loop-n.invariant.0.above.sized in (
      subst (λ (i : ℕ). Stage ps c.args.level i 0 step.new.sheet) (sym (add-one n)) step.ensures.stage,
      count_full (adds ps c.args.level) n c.loop-n.invariant.1 (sym step.ensures.added ∙ not-false _ c.if-not-step.false),
      λ left. subst (λ (i : ℕ). AllTaken ps c.args.level i (length ps)) (sym (add-one n)) (subst (λ (i : ℕ). AllTaken ps c.args.level (suc n) i) size (step.ensures.left left)),
    )

pub returns-then-not-left : goal.returns-then-not-left
returns-then-not-left g c =
    let ps = g.G.Game.meaning c.args.game.now in
    let l = c.args.level in
    let n = c.loop-n.n in
    let law = g.met.G.Game.lawful c.args.game.now in
    let none = none_added ps l n (c.loop-n.invariant.2 c.if-not-left.true) in
    let still = still_if ps law (colour_of ps) l n none in
    let few : n < length ps = omega (arith, c.requires.sized, c.clear-left.auto.sheet, c.loop-n-test.true) in
    record {
      done = level_done ps l n c.loop-n.sheet (omega arith) (still_later ps law (colour_of ps) l n still (length ps) (omega arith)) c.loop-n.invariant.0;
      rounds = sym (count_stop (adds ps l) n (length ps) c.loop-n.invariant.1 (omega arith) (λ j a b. none_later ps law (colour_of ps) l n j none a));
    }

pub returns-then-not-step : goal.returns-then-not-step
returns-then-not-step g c =
    let ps = g.G.Game.meaning c.args.game.now in
    let l = c.args.level in
    let n = c.loop-n.n in
    let law = g.met.G.Game.lawful c.args.game.now in
    let none = sym c.round-step.ensures.added ∙ not-true _ c.if-not-step.true in
    let still = still_if ps law (colour_of ps) l n none in
    let few : n < length ps = omega (arith, c.requires.sized, c.clear-left.auto.sheet, c.loop-n-test.true) in
    record {
      done = level_done ps l (suc n) c.round-step.new.sheet few
          (record { at = λ w b e. (still_later ps law (colour_of ps) l n still (length ps) (omega arith)).at w b e ∙ sym ((still_later ps law (colour_of ps) l n still (suc n) (omega arith)).at w b e) })
          c.round-step.ensures.stage;
      rounds = sym (count_stop (adds ps l) n (length ps) c.loop-n.invariant.1 (omega arith) (λ j a b. none_later ps law (colour_of ps) l n j none a));
    }
