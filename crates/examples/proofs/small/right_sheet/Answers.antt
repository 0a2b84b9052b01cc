use Rattle.std.proofs.Common.{refl}
use Rattle.game.specs.First.{first_below, all_below}
use Rattle.game.specs.Checking.{broken_for}
use Rattle.examples.proofs.small.right_sheet.Goals as goal

pub returns-clause-accepted : goal.returns-clause-accepted
unfolding first_below all_below broken_for
returns-clause-accepted c = rw (c.entry.ensures, c.entry-2.ensures, c.entry-3.ensures, c.entry-4.ensures) refl
