use Rattle.std.proofs.Common.{ℕ, suc, set, sym, refl, ◌∙◌, subst, add-one, arith}
use Rattle.game.specs.declared.sheet.Entry.{Entry}
use Rattle.std.proofs.lemmas.List.{set-get_or}
use Rattle.game.specs.Positions.{position}
use Rattle.game.specs.Sheets.{blank_entry}
use Rattle.std.proofs.lemmas.Bool.{both_ways}
use Rattle.solver.specs.Stages.{Cleared, AllTaken}
use Rattle.solver.proofs.Stages.{mark_same, cleared_here, cleared_other, none_left}
use Rattle.solver.proofs.level.clear.Goals as goal
use Rattle.solver.proofs.level.clear.Goals.{then-level_of-level, else-level_of-level}

pub loop-v-preserved : goal.loop-v-preserved
loop-v-preserved g c =
    let ps = g.G.Game.meaning c.args.game.now in
    let l = c.args.level in
    let v = c.loop-v.v in
    let es = c.loop-v.sheet in
    let cleared = c.loop-v.invariant.0 in
    elim c.if-level_of-level.branch [
      | then-level_of-level w ↦
          let mark = sym (w.mark.ensures ∙ mark_same w.kind_of.result (position ps v).kind 0 0 w.kind_of.ensures refl) in (
            subst (λ (i : ℕ). Cleared ps l i c.if-level_of-level.sheet) (sym (add-one v))
                (subst (λ xs. Cleared ps l (suc v) xs) (sym w.sheet-is) (subst (λ (e : Entry). Cleared ps l (suc v) (set es v e)) mark
                (cleared_here ps l v es cleared (omega (arith, c.loop-v-test.true, c.requires.sized)) (sym c.level_of.ensures ∙ w.if-level_of-level.true)))),
            λ left. absurd (both_ways _ left w.left-is),
          )
      | else-level_of-level w ↦ (
        subst (λ (i : ℕ). Cleared ps l i c.if-level_of-level.sheet) (sym (add-one v))
            (subst (λ xs. Cleared ps l (suc v) xs) (sym (w.sheet-is ∙ set-get_or es v blank_entry)) (cleared_other ps l v es cleared (λ e. w.if-level_of-level.false (c.level_of.ensures ∙ e)))),
        λ left. subst (λ (i : ℕ). AllTaken ps l 0 i) (sym (add-one v)) (none_left ps l 0 v (c.loop-v.invariant.1 (sym w.left-is ∙ left)) (λ e. absurd (w.if-level_of-level.false (c.level_of.ensures ∙ e)))),
      )
    ]
