use Rattle.game.specs.Sides.{opposite}
use Rattle.std.proofs.Common.{ap, ◌-◌, ◌∙◌, arith}
use Rattle.game.specs.Positions.{position}
use Rattle.game.specs.Sheets.{entry_of}
use Rattle.solver.proofs.Choosing.{done_readable, rank_most, suits_same, suits_led}
use Rattle.solver.proofs.moves.Settled.is_suited.Goals as goal

pub invariant_of-waiting : goal.invariant_of-waiting
invariant_of-waiting g c =
    let x = c.args.self.now.game.now in
    let ps = g.G.Game.meaning x in
    let es = c.args.self.now.sheet.now in
    let v = c.args.self.now.v in
    let law = g.met.G.Game.lawful x in
    let few = rank_most ps law es c.args.self.now.filled v c.args.self.now.here in
    record { same_level = c.level_of.ensures; against_kind = c.other.ensures ∙ ap opposite c.kind_of.ensures; read = done_readable ps law es c.args.self.now.filled (position ps v).level ((entry_of es v).rank - 1) (omega (arith, few)) }

pub returns-then-rank-eq0 : goal.returns-then-rank-eq0
returns-then-rank-eq0 g c =
    let x = c.args.self.now.game.now in
    let ps = g.G.Game.meaning x in
    let es = c.args.self.now.sheet.now in
    let law = g.met.G.Game.lawful x in
    suits_same ps law es c.args.self.now.filled c.args.self.now.v c.args.self.now.here c.args.k c.target_of.result c.target_of.ensures.value c.target_of.ensures.bound c.if-rank-eq0.true

pub returns-else-rank-eq0 : goal.returns-else-rank-eq0
returns-else-rank-eq0 g c =
    let x = c.args.self.now.game.now in
    let ps = g.G.Game.meaning x in
    let es = c.args.self.now.sheet.now in
    let law = g.met.G.Game.lawful x in
    c.leads_already.ensures ∙ suits_led ps law es c.args.self.now.filled c.args.self.now.v c.args.self.now.here c.args.k c.if-rank-eq0.false
