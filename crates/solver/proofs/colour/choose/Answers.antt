use Rattle.std.proofs.Common.{◌≡◌, List, None, sym, subst, arith}
use Rattle.game.specs.declared.sheet.Entry.{Entry}
use Rattle.game.specs.Checking.{checked}
use Rattle.game.proofs.Kept.{keeps_accepted}
use Rattle.rounds.specs.Rounds.{colouring}
use Rattle.rounds.specs.Ruled.{RuledByRounds}
use Rattle.rounds.proofs.Right.{colouring_keeps}
use Rattle.rounds.proofs.Rules.{colouring_ruled}
use Rattle.solver.proofs.Colouring.{filled_all}
use Rattle.solver.proofs.colour.choose.Goals as goal

pub returns : goal.returns
returns g c =
    let ps = g.G.Game.meaning c.args.game.now in
    let law = g.met.G.Game.lawful c.args.game.now in
    let whole = filled_all ps law c.loop-v.sheet c.loop-v.v (omega (arith, c.requires.sized, c.loop-v-test.false)) c.loop-v.invariant in
    record {
      sheet = whole;
      accepted = subst (λ (es : List Entry). checked ps es ≡ None) (sym whole) (keeps_accepted ps (colouring ps) (colouring_keeps ps law));
      ruled = subst (λ (es : List Entry). RuledByRounds ps es) (sym whole) (colouring_ruled ps law);
    }
