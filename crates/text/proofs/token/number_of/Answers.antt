use Rattle.std.proofs.Common.{sym, ap, ◌∙◌, arith}
use Rattle.std.proofs.lemmas.List.{take_all}
use Rattle.text.specs.Tokens.{numeral}
use Rattle.text.proofs.Numerals.{too_large, not_too_large}
use Rattle.text.proofs.token.number_of.Goals as goal

pub returns-in_err-checked_mul : goal.returns-in_err-checked_mul
returns-in_err-checked_mul c = c.from_residual.ensures ∙ sym (too_large c.args.digits.now c.loop-digit.digit-index c.loop-digit-test.true (omega (arith, c.in_err-checked_mul.ensures {u = tt})))

pub returns-in_err-value : goal.returns-in_err-value
returns-in_err-value c = c.from_residual-in_err-value.ensures ∙ sym (too_large c.args.digits.now c.loop-digit.digit-index c.loop-digit-test.true (omega (arith, c.in_err-value.ensures {u = tt}, c.in_ok-checked_mul.ensures {u = tt})))

pub returns : goal.returns
returns c = sym (not_too_large c.args.digits.now c.loop-digit.value c.loop-digit.invariant.0 (c.loop-digit.invariant.1 ∙ ap numeral (take_all _ c.args.digits.now c.loop-digit-test.false)))
