use Rattle.std.proofs.Common.{◌≡◌, ◌∙◌, true, false, sym, ap, ℕ, rules, arith}
use borrow.Author.Tests.{tests}
use Rattle.std.proofs.lemmas.Bool.{cond-true, cond-false}
use Rattle.std.proofs.lemmas.Iterator.{cases_from_any, cases_from_all, YieldsList-from_range}
use Rattle.game.specs.Positions.{degree}
use Rattle.rounds.specs.Rounds.{leads_already, taken, colour_of}
use Rattle.solver.proofs.Scans.{any_numbers, all_numbers}
use Rattle.solver.proofs.moves.Waiting.is_forced.Goals as goal

pub returns-then-taker_owns : goal.returns-then-taker_owns
returns-then-taker_owns g c =
    let ps = g.G.Game.meaning c.args.self.now.game.now in
    let v = c.args.self.now.v in
    let f = leads_already ps (colour_of ps) (taken ps c.args.self.now.n) v in
    let h = cases_from_any _ _ _ (λ k. f k ≡ true) (λ k. f k ≡ false) c.any.ensures.ran (YieldsList-from_range 0 (degree ps v) (degree ps v) (ap (λ (n : ℕ). record { start = 0; end = n }) c.degree_of.ensures) (omega arith)) (λ x q k. search (rules, tests)) (λ x q k. search (rules, tests)) in
    any_numbers f (degree ps v) _ h ∙ sym (cond-true _ _ _ (sym c.taker_owns.ensures ∙ c.if-taker_owns.true))

pub returns-else-taker_owns : goal.returns-else-taker_owns
returns-else-taker_owns g c =
    let ps = g.G.Game.meaning c.args.self.now.game.now in
    let v = c.args.self.now.v in
    let f = leads_already ps (colour_of ps) (taken ps c.args.self.now.n) v in
    let h = cases_from_all _ _ _ (λ k. f k ≡ true) (λ k. f k ≡ false) c.all.ensures.ran (YieldsList-from_range 0 (degree ps v) (degree ps v) (ap (λ (n : ℕ). record { start = 0; end = n }) c.degree_of.ensures) (omega arith)) (λ x q k. search (rules, tests)) (λ x q k. search (rules, tests)) in
    all_numbers f (degree ps v) _ h ∙ sym (cond-false _ _ _ (sym c.taker_owns.ensures ∙ c.if-taker_owns.false))
