use Rattle.std.proofs.Common.{suc, ◌+◌, set, sym, ap, ◌∙◌, subst, add-one, arith}
use Rattle.game.specs.declared.sheet.Entry.{Entry}
use Rattle.game.specs.Sides.{opposite}
use Rattle.rounds.specs.Rounds.{taker}
use Rattle.solver.specs.Stages.{Stage}
use Rattle.solver.proofs.Stages.{mark_same, stage_taken, stage_left}
use Rattle.solver.proofs.level.advance.Goals as goal

pub returns-then-step-clause-stage : goal.returns-then-step-clause-stage
returns-then-step-clause-stage g c =
    let s = c.args in
    let ps = g.G.Game.meaning s.game.now in
    let es = c.args.sheet.now in
    let v = c.args.v in
    let mark = sym (c.mark.ensures ∙ mark_same c.other.result (taker ps v) (s.n + 1) (suc s.n) (c.other.ensures ∙ ap opposite c.kind_of.ensures) (add-one s.n)) in
    subst (λ (e : Entry). Stage ps s.level s.n (suc v) (set es v e)) mark (stage_taken ps (g.met.G.Game.lawful s.game.now) s.level s.n v es c.requires.stage (omega (arith, c.requires.stage.above.sized, c.requires.within)) (sym c.step_at-step.ensures.taken ∙ c.if-step.true))

pub returns-else-step-clause-stage : goal.returns-else-step-clause-stage
returns-else-step-clause-stage g c =
    let s = c.args in
    stage_left _ (g.met.G.Game.lawful s.game.now) s.level s.n c.args.v c.args.sheet.now c.requires.stage (omega (arith, c.requires.stage.above.sized, c.requires.within)) (sym c.step_at-step.ensures.taken ∙ c.if-step.false)
