use Rattle.std.proofs.Common.{sym, refl, ◌∙◌}
use Rattle.std.proofs.lemmas.Bool.{not-true, not-false}
use Rattle.game.proofs.Entries.{broken_is}
use Rattle.game.proofs.check.CheckedEntry.check_for.Goals as goal

pub returns-then-not-choice_fits : goal.returns-then-not-choice_fits
returns-then-not-choice_fits g c =
    let it = c.args.self.now in
    broken_is _ _ _ _ it.entered c.eq-own.ensures c.owner_of.ensures refl refl it.counted
    (sym c.if-not-choice_fits.true ∙ c.choice_fits.ensures) refl refl refl

pub returns-then-not-moves : goal.returns-then-not-moves
returns-then-not-moves g c =
    let it = c.args.self.now in
    broken_is _ _ _ _ it.entered c.eq-own.ensures c.owner_of.ensures c.eq-same_kind.ensures c.kind_of.ensures it.counted
    (sym c.if-not-choice_fits.false ∙ c.choice_fits.ensures) (sym (not-true _ c.if-not-moves.true) ∙ c.move_rules-moves.ensures.keep_colour) refl refl

pub returns-then-not-rank_fits : goal.returns-then-not-rank_fits
returns-then-not-rank_fits g c =
    let it = c.args.self.now in
    broken_is _ _ _ _ it.entered c.eq-own.ensures c.owner_of.ensures c.eq-same_kind.ensures c.kind_of.ensures it.counted
    (sym c.if-not-choice_fits.false ∙ c.choice_fits.ensures) (sym (not-false _ c.if-not-moves.false) ∙ c.move_rules-moves.ensures.keep_colour) (sym c.if-not-rank_fits.true ∙ c.rank_fits.ensures) refl

pub returns-then-not-moves-2 : goal.returns-then-not-moves-2
returns-then-not-moves-2 g c =
    let it = c.args.self.now in
    broken_is _ _ _ _ it.entered c.eq-own.ensures c.owner_of.ensures c.eq-same_kind.ensures c.kind_of.ensures it.counted
    (sym c.if-not-choice_fits.false ∙ c.choice_fits.ensures) (sym (not-false _ c.if-not-moves.false) ∙ c.move_rules-moves.ensures.keep_colour) (sym c.if-not-rank_fits.false ∙ c.rank_fits.ensures)
    (sym (not-true _ c.if-not-moves-2.true) ∙ c.move_rules-moves.ensures.fall (not-false _ c.if-not-moves.false))

pub returns : goal.returns
returns g c =
    let it = c.args.self.now in
    broken_is _ _ _ _ it.entered c.eq-own.ensures c.owner_of.ensures c.eq-same_kind.ensures c.kind_of.ensures it.counted
    (sym c.if-not-choice_fits.false ∙ c.choice_fits.ensures) (sym (not-false _ c.if-not-moves.false) ∙ c.move_rules-moves.ensures.keep_colour) (sym c.if-not-rank_fits.false ∙ c.rank_fits.ensures)
    (sym (not-false _ c.if-not-moves-2.false) ∙ c.move_rules-moves.ensures.fall (not-false _ c.if-not-moves.false))
