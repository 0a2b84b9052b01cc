use Rattle.std.proofs.Common.{Some, sym, ap, ◌∙◌}
use Rattle.std.proofs.lemmas.Result.{err_from_is_err_and}
use Rattle.game.specs.declared.refusal.Refusal.{Refusal}
use Rattle.game.specs.Refusals.{told, tells}
use Rattle.game.proofs.Firsts.{first_none, first_more}
use Rattle.game.proofs.Checks.{promised, told_length, told_found, told_none}
use Rattle.game.proofs.check.check.Goals as goal

pub loop-v-init : goal.loop-v-init
loop-v-init g c = first_none _

pub loop-v-preserved : goal.loop-v-preserved
loop-v-preserved g c = first_more _ _ c.loop-v.invariant (sym c.in_ok-check.ensures)

pub returns-then-not-is_sized : goal.returns-then-not-is_sized
returns-then-not-is_sized g c =
    let x = c.args.game.now in
    promised (g.G.Game.meaning x) (g.met.G.Game.lawful x) c.args.sheet.now _ (told_length _ _ c.if-not-is_sized.ensures)

pub returns-in_err-check : goal.returns-in_err-check
returns-in_err-check g c =
    let x = c.args.game.now in
    let out = err_from_is_err_and c.from_residual.result c.from_residual.ensures.1 in
    promised (g.G.Game.meaning x) (g.met.G.Game.lawful x) c.args.sheet.now _
    (ap (told tells) out.1 ∙ ap (λ (e : Refusal). Some (tells e)) out.2
    ∙ told_found _ _ c.if-not-is_sized.ensures _ c.loop-v.invariant _ c.in_err-check.ensures c.loop-v-test.true)

pub returns : goal.returns
returns g c =
    let x = c.args.game.now in
    promised (g.G.Game.meaning x) (g.met.G.Game.lawful x) c.args.sheet.now _
    (told_none _ _ c.if-not-is_sized.ensures _ c.loop-v.invariant c.loop-v.auto.v-end c.loop-v-test.false)
