-- A sheet that keeps the rules says at each position who wins.
use Rattle.std.proofs.Common.{◌≡◌, ℕ, List, sym, refl, ap, ◌∙◌}
use Rattle.game.specs.declared.side.Side.{Side}
use Rattle.game.specs.declared.side.Side.TheVariants.{Green, Red}
use Rattle.game.specs.declared.sheet.Entry.{Entry}
use Rattle.game.specs.Sides.{number_of}
use Rattle.game.specs.Positions.{Position}
use Rattle.game.specs.Laws.{Lawful}
use Rattle.game.specs.Winning.{Wins}
use Rattle.game.specs.Sheets.{Settles, SameColours}
use Rattle.game.specs.Rules.{KeepsRules}
use Rattle.game.proofs.Sound.{sound}
use Rattle.game.proofs.Exclusive.{exclusive}

one_winner : (ps : List Position) → Lawful ps → (v : ℕ) (c d : Side) → Wins ps c v → Wins ps d v → c ≡ d
one_winner ps lawful v Green Green a b = refl
one_winner ps lawful v Green Red a b = absurd (exclusive ps lawful v a b)
one_winner ps lawful v Red Green a b = absurd (exclusive ps lawful v b a)
one_winner ps lawful v Red Red a b = refl

module _ (ps : List Position) (lawful : Lawful ps) where
  pub settled : (es : List Entry) → KeepsRules ps es → Settles ps es
  settled es keeps = record {
    wins = λ v h c s. sound ps lawful es keeps c v h s;
    coloured = λ v c w. let (d, k) = keeps.rules v w.here in k.coloured ∙ ap number_of (one_winner ps lawful v d c (sound ps lawful es keeps d v w.here k.coloured) w);
  }

  pub same_colours : (es fs : List Entry) → KeepsRules ps es → KeepsRules ps fs → SameColours ps es fs
  same_colours es fs a b v h =
      let (c, k) = a.rules v h in
      k.coloured ∙ sym ((settled fs b).coloured v c ((settled es a).wins v h c k.coloured))
