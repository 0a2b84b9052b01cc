use Rattle.game.specs.Sides.{opposite}
use Rattle.std.proofs.Common.{ℕ, ap, sym, ◌∙◌, subst, arith}
use Rattle.std.proofs.lemmas.Bool.{not-false}
use Rattle.rounds.specs.Rounds.{colour_of}
use Rattle.rounds.proofs.Taking.{taken_more, taking}
use Rattle.solver.specs.Stages.{Readable}
use Rattle.solver.proofs.Stages.{stage_readable, takes_other, takes_ranked, ranked_taken, takes_forced}
use Rattle.solver.proofs.level.step_at.Goals as goal

pub returns-then-level_of-level-clause-taken : goal.returns-then-level_of-level-clause-taken
returns-then-level_of-level-clause-taken g c =
    let s = c.args in
    takes_other _ (g.met.G.Game.lawful s.game.now) s.level s.n s.v s.sheet.now c.requires.stage (omega (arith, c.requires.stage.above.sized, c.requires.within)) (λ e. c.if-level_of-level.true (c.level_of.ensures ∙ e))

pub returns-then-level_of-level-clause-left : goal.returns-then-level_of-level-clause-left
returns-then-level_of-level-clause-left g c = λ _ e. absurd (c.if-level_of-level.true (c.level_of.ensures ∙ e))

pub returns-then-sheet-v-ne0-clause-taken : goal.returns-then-sheet-v-ne0-clause-taken
returns-then-sheet-v-ne0-clause-taken g c =
    let s = c.args in
    takes_ranked _ (g.met.G.Game.lawful s.game.now) s.level s.n s.v s.sheet.now c.requires.stage (omega (arith, c.requires.stage.above.sized, c.requires.within)) (sym c.level_of.ensures ∙ c.if-level_of-level.false) c.if-sheet-v-ne0.true

pub returns-then-sheet-v-ne0-clause-left : goal.returns-then-sheet-v-ne0-clause-left
returns-then-sheet-v-ne0-clause-left g c = λ _ e.
    let s = c.args in
    let ps = g.G.Game.meaning s.game.now in
    taken_more ps (colour_of ps) s.n s.v (ranked_taken ps (g.met.G.Game.lawful s.game.now) s.level s.n s.v s.sheet.now c.requires.stage (omega (arith, c.requires.stage.above.sized, c.requires.within)) (sym c.level_of.ensures ∙ c.if-level_of-level.false) c.if-sheet-v-ne0.true)

pub invariant_of-waiting : goal.invariant_of-waiting
invariant_of-waiting g c =
    let s = c.args in
    let ps = g.G.Game.meaning s.game.now in
    let law = g.met.G.Game.lawful s.game.now in
    record { same_level = sym (sym c.level_of.ensures ∙ c.if-level_of-level.false); against_kind = c.other.ensures ∙ ap opposite c.kind_of.ensures; read = subst (λ (l : ℕ). Readable ps l s.n c.args.sheet.now) (sym c.if-level_of-level.false ∙ c.level_of.ensures) (stage_readable ps law s.level s.n c.args.v c.args.sheet.now c.requires.stage) }

pub returns-clause-taken : goal.returns-clause-taken
returns-clause-taken g c =
    let s = c.args in
    let law = g.met.G.Game.lawful s.game.now in
    takes_forced _ law s.level s.n c.args.v c.args.sheet.now c.requires.stage (omega (arith, c.requires.stage.above.sized, c.requires.within)) (sym c.level_of.ensures ∙ c.if-level_of-level.false) _ c.is_forced-taken.ensures c.if-sheet-v-ne0.false

pub returns-clause-left : goal.returns-clause-left
returns-clause-left g c = λ left e.
    let s = c.args in
    let ps = g.G.Game.meaning s.game.now in
    let law = g.met.G.Game.lawful s.game.now in
    let takes = takes_forced _ law s.level s.n c.args.v c.args.sheet.now c.requires.stage (omega (arith, c.requires.stage.above.sized, c.requires.within)) (sym c.level_of.ensures ∙ c.if-level_of-level.false) _ c.is_forced-taken.ensures c.if-sheet-v-ne0.false in
    (taking ps law (colour_of ps) s.level s.n s.v (sym takes ∙ not-false _ left)).1
