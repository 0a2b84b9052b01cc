-- Two games go under one head where nothing refuses them.
use Rattle.std.proofs.Common.{◌≡◌, ℕ, ◌+◌, ◌<◌, ◌≤◌, List, length, Some, None, Option, sym, ap, ◌∙◌, inl, inr, arith}
use Rattle.std.specs.Option.{option_map}
use Rattle.std.specs.List.{slice_get}
use Rattle.std.proofs.lemmas.Option.{slice_get-get_or, slice_get_past}
use Rattle.std.proofs.lemmas.Bool.{cases_lt, and_parts, leb-true, ltb-true}
use Rattle.game.specs.declared.side.Side.{Side}
use Rattle.game.specs.Positions.{Position, blank}
use Rattle.game.specs.Laws.{most_positions, Lawful}
use Rattle.game.specs.Refusals.{refused}
use Rattle.game.proofs.Firsts.{unless_none}
use Rattle.combine.specs.Join.{shifted, joined, join_refusal, ColoursJoined}
use Rattle.combine.proofs.Joins.{joined_length, joined_first, joined_second, joined_lawful, colours_joined}

module _ (owner : Side) (xs : List Position) (p : ℕ) (ys : List Position) (q : ℕ) where
  -- the joined game, read by position
  pub read_first : (v : ℕ) → v < length xs → slice_get (joined owner xs p ys q) (1 + v) ≡ option_map (shifted 1) (slice_get xs v)
  read_first v h =
      let n = joined_length owner xs p ys q in
      slice_get-get_or (joined owner xs p ys q) (1 + v) blank (omega arith)
      ∙ ap {B = Option Position} Some (joined_first owner xs p ys q v h) ∙ sym (ap (option_map (shifted 1)) (slice_get-get_or xs v blank h))

  pub read_second : (v : ℕ) → slice_get (joined owner xs p ys q) (1 + length xs + v) ≡ option_map (shifted (1 + length xs)) (slice_get ys v)
  read_second v =
      let n = joined_length owner xs p ys q in
      elim (cases_lt v (length ys)) [
        | inl l ↦ slice_get-get_or (joined owner xs p ys q) (1 + length xs + v) blank (omega arith)
            ∙ ap {B = Option Position} Some (joined_second owner xs p ys q v l) ∙ sym (ap (option_map (shifted (1 + length xs))) (slice_get-get_or ys v blank l))
        | inr l ↦ slice_get_past (joined owner xs p ys q) (1 + length xs + v) (omega arith) ∙ sym (ap (option_map (shifted (1 + length xs))) (slice_get_past ys v l))
      ]

  module _ (none : join_refusal (length xs) p (length ys) q ≡ None) where
    pub record Unrefused : Type 0 where
      pub first : p < length xs
      pub second : q < length ys
      pub few : 1 + length xs + length ys ≤ most_positions

    pub unrefused : Unrefused
    unrefused =
        let (inside, later) = unless_none _ (refused 12) _ none in
        let (first, second) = and_parts _ _ inside in
        let (few, _) = unless_none _ (refused 13) None later in
        record { first = ltb-true _ _ first; second = ltb-true _ _ second; few = leb-true _ _ few }

    module _ (first : Lawful xs) (second : Lawful ys) where
      pub unrefused_lawful : Lawful (joined owner xs p ys q)
      unrefused_lawful = let u = unrefused in joined_lawful owner xs p ys q first second u.first u.second u.few

      pub unrefused_colours : ColoursJoined owner xs p ys q
      unrefused_colours = let u = unrefused in colours_joined owner xs p ys q first second u.first u.second
