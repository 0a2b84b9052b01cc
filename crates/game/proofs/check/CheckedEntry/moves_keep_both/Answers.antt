use Rattle.std.proofs.Common.{◌&&◌, rules, tests, ◌∙◌}
use Rattle.game.specs.Checking.{keeps_colour, rank_falls}
use Rattle.game.proofs.Counting.{all_counting, each_both}
use Rattle.game.proofs.check.CheckedEntry.moves_keep_both.Goals as goal

pub returns : goal.returns
returns g c =
    let it = c.args.self.now in
    let kept = keeps_colour (g.G.Game.meaning it.game.now) it.sheet.now it.v in
    let fell = rank_falls (g.G.Game.meaning it.game.now) it.sheet.now it.v in
    all_counting _ _ _ (λ k. kept k && fell k) c.counting.ensures c.all.ensures.ran (λ x b q k. search (rules, tests)) ∙ each_both kept fell _ _ _
