-- How a position of a row game is read off its row. No promise rests on this; proofs/RowReads shows that it is so.
use Rattle.std.specs.Prelude.{◌≡◌, ℕ, List, [], length, IfSome, Some, None, Option}
use Rattle.std.specs.Option.{option_map}
use Rattle.std.specs.List.{slice_get}
use Rattle.game.specs.Positions.{target_at}
use Rattle.games.specs.declared.row.Row.{Row}
use Rattle.games.specs.Rows.{span_of, position_of, meaning_of}

-- The moves of a row, if it is there.
abbrev pub moves_in : List ℕ → Option Row → List ℕ
moves_in ts None = []
moves_in ts (Some r) = span_of ts r

-- What is known of position p where o is the row there, if any.
pub record ReadOff (rs : List Row) (ts : List ℕ) (p : ℕ) (o : Option Row) : Type 0 where
  pub position : option_map (position_of ts) o ≡ slice_get (meaning_of rs ts) p
  pub targets : (k : ℕ) → slice_get (moves_in ts o) k ≡ target_at (meaning_of rs ts) p k
  pub count : IfSome o (λ r. r.count ≡ length (span_of ts r))
