use Rattle.std.proofs.Common.{◌≡◌, ◌≤◌, take}
use Rattle.text.specs.Tokens.{numeral, most_number}
use Rattle.text.proofs.token.number_of.Given as goal

abbrev pub invariant-loop-digit : goal.invariant-loop-digit
invariant-loop-digit l = (l.value ≤ most_number) × (l.value ≡ numeral (take l.digit-index l.digits))
