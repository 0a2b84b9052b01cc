use Rattle.std.proofs.Common.{◌≡◌, ◌+◌, rules, sym, ap, ◌∙◌}
use Rattle.std.specs.Option.{option_map}
use Rattle.games.proofs.Seating.{level_first, level_second}
use Rattle.games.proofs.pair.PairGame.level.Goals as goal

pub returns-in-First : goal.returns-in-First
returns-in-First g c =
    let s = c.args.self.now in
    let seat = c.in-First.ensures in
    let shifted : c.map.result ≡ option_map (λ t. 1 + t) c.level.result = search rules in
    shifted ∙ ap (option_map (λ t. 1 + t)) c.level.ensures ∙ sym (level_first s.owner _ s.p _ s.q c.args.u _ seat.0 seat.1)

pub returns-in-Second : goal.returns-in-Second
returns-in-Second g c =
    let s = c.args.self.now in
    let seat = c.in-Second.ensures in
    let shifted : c.map-in-Second.result ≡ option_map (λ t. 1 + t) c.level-in-Second.result = search rules in
    shifted ∙ ap (option_map (λ t. 1 + t)) c.level-in-Second.ensures ∙ sym (level_second s.owner _ s.p _ s.q c.args.u _ seat)
