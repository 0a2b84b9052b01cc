use Rattle.std.proofs.Common.{refl}
use Rattle.game.specs.First.{first_below, all_below}
use Rattle.game.specs.Checking.{broken_for}
use Rattle.rounds.specs.Below.{any_below}
use Rattle.rounds.specs.Rounds.{taken_by, colours_after, colour_of}
use Rattle.trials.proofs.worked.one_row.Goals as goal

pub returns : goal.returns
unfolding first_below all_below broken_for any_below taken_by colours_after colour_of
returns c = record { row = refl; worked = record { made = refl; red_wins = refl; no_fall = refl; no_rank = refl }; paired = record { green = refl; red = refl } }
