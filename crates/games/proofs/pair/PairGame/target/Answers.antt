use Rattle.std.proofs.Common.{◌≡◌, ℕ, ◌+◌, length, rules, sym, ap, ◌∙◌}
use Rattle.std.specs.Option.{option_map}
use Rattle.games.proofs.Seating.{target_first, target_second}
use Rattle.games.proofs.pair.PairGame.target.Goals as goal

pub returns-in-First : goal.returns-in-First
returns-in-First g c =
    let s = c.args.self.now in
    let seat = c.in-First.ensures in
    let shifted : c.map.result ≡ option_map (λ t. 1 + t) c.target.result = search rules in
    shifted ∙ ap (option_map (λ t. 1 + t)) c.target.ensures ∙ sym (target_first s.owner _ s.p _ s.q c.args.u _ c.args.k seat.0 seat.1)

pub returns-in-Second : goal.returns-in-Second
returns-in-Second g c =
    let s = c.args.self.now in
    let n = c.count-n.result in
    let seat = c.in-Second.ensures in
    let shifted : c.map-in-Second.result ≡ option_map (λ t. 1 + n + t) c.target-in-Second.result = search rules in
    shifted ∙ ap (λ (n : ℕ). option_map (λ t. 1 + n + t) c.target-in-Second.result) c.count-n.ensures
    ∙ ap (option_map (λ t. 1 + length (g.A.Game.meaning s.first) + t)) c.target-in-Second.ensures
    ∙ sym (target_second s.owner _ s.p _ s.q c.args.u _ c.args.k seat)
