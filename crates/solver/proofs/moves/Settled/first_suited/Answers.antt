use Rattle.std.proofs.Common.{◌≡◌, ◌≤◌, true, false, ◌∙◌, ap, rules, arith}
use borrow.Author.Tests.{tests}
use Rattle.std.proofs.lemmas.Iterator.{first_from_Range}
use Rattle.rounds.specs.Below.{first_true}
use Rattle.rounds.specs.Rounds.{suits}
use Rattle.solver.proofs.Scans.{found_first}
use Rattle.solver.proofs.moves.Settled.first_suited.Given
use Rattle.solver.proofs.moves.Settled.first_suited.Goals as goal

-- what the search gives
found : (g : Given.Over) (c : goal.After-unwrap_or g) → (c.unwrap_or.result ≤ c.degree_of.result) × (c.unwrap_or.result ≡ first_true (suits (g.G.Game.meaning c.args.self.now.game.now) c.args.self.now.v) c.degree_of.result)
found g c =
    let f = suits (g.G.Game.meaning c.args.self.now.game.now) c.args.self.now.v in
    let h = found_first f c.degree_of.result c.find.result (first_from_Range _ _ _ _ (λ k. f k ≡ true) (λ k. f k ≡ false) c.find.ensures.ran (λ x q k. search (rules, tests)) (λ x q k. search (rules, tests))) in
    (omega (arith, h.0, c.unwrap_or.ensures), c.unwrap_or.ensures ∙ h.1)

pub overflow_cast-result : goal.overflow_cast-result
overflow_cast-result g c =
    let few = (g.met.G.Game.bounded c.args.self.now.game.now).degrees c.args.self.now.v c.args.self.now.here in
    omega (arith, few, (found g c).0, c.degree_of.ensures)

pub returns : goal.returns
returns g c =
    (found g c).1 ∙ ap (first_true (suits (g.G.Game.meaning c.args.self.now.game.now) c.args.self.now.v)) c.degree_of.ensures
