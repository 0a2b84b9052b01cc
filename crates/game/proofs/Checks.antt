-- The check's value, as the loop comes to it, and what follows from it.
use Rattle.std.proofs.Common.{◌≡◌, ℕ, ◌<◌, ◌≤◌, true, false, eqb, List, length, Some, None, Option, sym, ap, ◌∙◌, arith}
use Rattle.std.proofs.lemmas.Bool.{cond-true, cond-false, eqb-true}
use Rattle.game.specs.declared.sheet.Entry.{Entry}
use Rattle.game.specs.Positions.{Position}
use Rattle.game.specs.Laws.{Bounded, Monotone, KeepsKind, Lawful}
use Rattle.game.specs.Sheets.{Settles}
use Rattle.game.specs.Refusals.{Refused, refused}
use Rattle.game.specs.First.{first_below}
use Rattle.game.specs.Checking.{checked, refused_by, AcceptsKeeping, UniqueColours}
use Rattle.game.proofs.Firsts.{first_found}
use Rattle.game.proofs.Kept.{accepted_keeps, keeps_accepted}
use Rattle.game.proofs.Settled.{settled, same_colours}

module _ (ps : List Position) (es : List Entry) where
  pub told_length : false ≡ eqb (length es) (length ps) → Some (refused 11) ≡ checked ps es
  told_length other = sym (cond-false _ _ _ (sym other))

  module _ (sized : true ≡ eqb (length es) (length ps)) (v : ℕ) (clear : first_below (refused_by ps es) v ≡ None) where
    size : length es ≡ length ps
    size = eqb-true (length es) (length ps) (sym sized)

    pub told_found : (x : Refused) → Some x ≡ refused_by ps es v → v < length es → Some x ≡ checked ps es
    told_found x e h = let s = size in sym (cond-true _ _ _ (sym sized) ∙ first_found (refused_by ps es) v (length ps) x clear (sym e) (omega arith))

    pub told_none : v ≤ length es → length es ≤ v → None ≡ checked ps es
    told_none a b =
        let s = size in
        let end : length ps ≡ v = omega arith in
        sym (cond-true _ _ _ (sym sized) ∙ ap (first_below (refused_by ps es)) end ∙ clear)

-- the bounds and both laws, together
pub lawful : {ps : List Position} → Bounded ps → Monotone ps → KeepsKind ps → Lawful ps
lawful b m k = record { bounded = b; monotone = m; keeps_kind = k }

-- what follows from the value
module _ (ps : List Position) (law : Lawful ps) (es : List Entry) (answer : Option Refused) (is : answer ≡ checked ps es) where
  pub accepts : AcceptsKeeping ps es answer
  accepts = record { sound = λ n. accepted_keeps ps es (sym is ∙ n); complete = λ k. is ∙ keeps_accepted ps es k }

  pub wins : answer ≡ None → Settles ps es
  wins n = settled ps law es (accepts.sound n)

  pub unique : answer ≡ None → UniqueColours ps es
  unique n fs m = same_colours ps law es fs (accepts.sound n) (accepted_keeps ps fs m)

  pub promised : record { first_broken : answer ≡ checked ps es; accepts_keeping : AcceptsKeeping ps es answer; colours_win : answer ≡ None → Settles ps es; colours_unique : answer ≡ None → UniqueColours ps es }
  promised = record { first_broken = is; accepts_keeping = accepts; colours_win = wins; colours_unique = unique }
