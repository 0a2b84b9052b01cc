-- The whole promise, from what is proved of each part.
use Rattle.std.proofs.Common.{◌≡◌, ℕ, List, length, None, refl}
use Rattle.std.proofs.lemmas.Bool.{cond-true, eq-eqb, and_parts, ltb-true, leb-true}
use Rattle.game.specs.declared.side.Side.{Side}
use Rattle.game.specs.Positions.{Position}
use Rattle.game.specs.Laws.{Lawful}
use Rattle.game.specs.Refusals.{refused}
use Rattle.game.specs.Checking.{checked}
use Rattle.game.proofs.Firsts.{unless_none}
use Rattle.game.proofs.Kept.{keeps_accepted}
use Rattle.game.proofs.Checks.{accepts, wins, unique}
use Rattle.combine.specs.Join.{join_refusal}
use Rattle.combine.proofs.Exchanges.{exchanged_lawful, colours_exchanged}
use Rattle.combine.proofs.Joins.{joined_lawful, colours_joined}
use Rattle.rounds.proofs.Right.{colouring_keeps}
use Rattle.rounds.proofs.Rules.{colouring_ruled}
use Rattle.rounds.specs.Rounds.{colouring}
use Rattle.plain.proofs.Plays.{plays}
use Rattle.play.specs.Promise.{ColoursTellWinners, RightSheetsAccepted, SwappedExchanges, PairJoins, Promise}

module _ (ps : List Position) (lawful : Lawful ps) where
  winners : ColoursTellWinners ps
  winners = record { settles = λ es e. wins ps lawful es (checked ps es) refl e; unique = λ es e. unique ps lawful es (checked ps es) refl e }

  sheets : RightSheetsAccepted ps
  sheets = record {
    keeping = λ es. accepts ps lawful es (checked ps es) refl;
    filled_in = λ es e. cond-true _ (colouring ps) es (eq-eqb _ _ e);
    ruled = colouring_ruled ps lawful;
    accepted = keeps_accepted ps (colouring ps) (colouring_keeps ps lawful);
  }

  swapped : SwappedExchanges ps
  swapped = record { lawful = exchanged_lawful ps lawful; colours = colours_exchanged ps lawful }

pairs : (owner : Side) (xs : List Position) (p : ℕ) (ys : List Position) (q : ℕ) → Lawful xs → Lawful ys → join_refusal (length xs) p (length ys) q ≡ None → PairJoins owner xs p ys q
pairs owner xs p ys q first second e =
    let (inside, later) = unless_none _ (refused 12) _ e in
    let (left, right) = and_parts _ _ inside in
    let (room, _) = unless_none _ (refused 13) None later in
    record {
      lawful = joined_lawful owner xs p ys q first second (ltb-true _ _ left) (ltb-true _ _ right) (leb-true _ _ room);
      colours = colours_joined owner xs p ys q first second (ltb-true _ _ left) (ltb-true _ _ right);
    }

pub promise : Promise
promise = record { winners = winners; sheets = sheets; swapped = swapped; paired = pairs; plays = plays }
