use Rattle.std.proofs.Common.{ℕ, suc, ◌||◌, sym, ap, ◌∙◌, subst, add-one, arith}
use Rattle.std.proofs.lemmas.Bool.{or_parts}
use Rattle.rounds.specs.Below.{any_below}
use Rattle.rounds.specs.Rounds.{takes_at}
use Rattle.rounds.proofs.Belows.{any_none, any_more}
use Rattle.solver.specs.Stages.{Stage, AllTaken}
use Rattle.solver.proofs.Stages.{none_left}
use Rattle.solver.proofs.level.round.Goals as goal

pub loop-v-init : goal.loop-v-init
loop-v-init g c = (c.requires.stage, sym (any_none _), λ _ v b. absurd (omega arith))

pub loop-v-preserved : goal.loop-v-preserved
loop-v-preserved g c =
    let s = c.args in
    let ps = g.G.Game.meaning s.game.now in
    let more = any_more (takes_at ps s.level s.n) c.loop-v.v in
    let before = c.loop-v.invariant in
    let step = c.advance-step in (
      subst (λ (i : ℕ). Stage ps s.level s.n i step.new.sheet) (sym (add-one c.loop-v.v)) step.ensures.stage,
      ap (λ b. b || step.result.taken) before.1 ∙ ap (λ b. any_below (takes_at ps s.level s.n) c.loop-v.v || b) step.ensures.taken ∙ sym more,
      λ left. let (a, b) = or_parts c.loop-v.left step.result.left left in subst (λ (i : ℕ). AllTaken ps s.level (suc s.n) i) (sym (add-one c.loop-v.v)) (none_left ps s.level (suc s.n) c.loop-v.v (before.2 a) (step.ensures.left b)),
    )
