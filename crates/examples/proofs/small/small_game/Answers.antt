use Rattle.std.proofs.Common.{rules, refl, ◌≡◌, None}
use Rattle.game.specs.First.{first_below, all_below}
use Rattle.games.specs.Rows.{rows_refusal}
use Rattle.examples.proofs.small.small_game.Goals as goal

-- The lists have no fault, as computing shows.
pub unwrap-requires : goal.unwrap-requires
unfolding first_below all_below
unwrap-requires c =
    let faultless : rows_refusal c.in_ok-rows.rows.items c.in_ok-targets.targets.items ≡ None = rw (c.in_ok-rows.ensures.items, c.in_ok-targets.ensures.items, c.row.ensures, c.row-2.ensures, c.row-3.ensures, c.row-4.ensures) refl in
    search (rules, faultless)
