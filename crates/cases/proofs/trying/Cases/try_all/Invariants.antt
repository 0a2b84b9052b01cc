use Rattle.std.proofs.Common.{◌≡◌, []}
use Rattle.cases.proofs.trying.Cases.try_all.Given as goal

-- where no number was left at first, no case has been tried
abbrev pub invariant-loop : goal.invariant-loop
invariant-loop g l = g.Self.Cases.left l.initial.self ≡ [] → (l.self ≡ l.initial.self) × (l.counter ≡ 0)
