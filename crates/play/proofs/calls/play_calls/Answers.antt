use Rattle.std.proofs.Common.{length}
use Rattle.play.specs.Told.{outcome_tells}
use Rattle.play.proofs.Played.{written, played}
use Rattle.play.proofs.calls.play_calls.Goals as goal

pub returns-clause-played : goal.returns-clause-played
returns-clause-played g c =
    played (g.G.Game.meaning c.args.game.now) c.args.sheet.now c.args.start c.args.calls.now (length c.args.answers.now) c.if-not-fits_calls.ensures (outcome_tells c.in_ok-outcome.outcome) c.in_ok-outcome.ensures (g.met.G.Game.lawful c.args.game.now) _ _ _ _ c.standing-first.ensures c.make_calls-stopped.ensures.made c.make_calls-stopped.ensures.outcome (cc)

pub returns-clause-answers : goal.returns-clause-answers
returns-clause-answers g c =
    written (g.G.Game.meaning c.args.game.now) c.args.sheet.now c.args.start c.args.calls.now (length c.args.answers.now) c.if-not-fits_calls.ensures (outcome_tells c.in_ok-outcome.outcome) c.in_ok-outcome.ensures (g.met.G.Game.lawful c.args.game.now) _ _ c.make_calls-stopped.ensures.answers
