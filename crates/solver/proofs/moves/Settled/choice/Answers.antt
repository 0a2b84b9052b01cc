use Rattle.std.proofs.Common.{ap, sym, ◌∙◌}
use Rattle.game.specs.Sides.{number_of}
use Rattle.solver.proofs.Choosing.{choice_own, choice_other}
use Rattle.solver.proofs.moves.Settled.choice.Goals as goal

pub returns-then-self-from : goal.returns-then-self-from
returns-then-self-from g c =
    let x = c.args.self.now.game.now in
    let ps = g.G.Game.meaning x in
    let law = g.met.G.Game.lawful x in
    c.first_suited.ensures ∙ choice_own ps law c.args.self.now.sheet.now c.args.self.now.filled c.args.self.now.v c.args.self.now.here _ (c.from.ensures ∙ ap number_of c.owner_of.ensures) (sym c.if-self-from.true)

pub returns-else-self-from : goal.returns-else-self-from
returns-else-self-from g c =
    let x = c.args.self.now.game.now in
    let ps = g.G.Game.meaning x in
    let law = g.met.G.Game.lawful x in
    choice_other ps law c.args.self.now.sheet.now c.args.self.now.filled c.args.self.now.v c.args.self.now.here _ (c.from.ensures ∙ ap number_of c.owner_of.ensures) (λ e. c.if-self-from.false (sym e))
