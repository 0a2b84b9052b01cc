-- Where a move leads, by what stands at its position.
use Rattle.std.proofs.Common.{◌≡◌, ℕ, List, Option, unwrap_or, sym, ap}
use Rattle.std.specs.List.{slice_get}
use Rattle.std.proofs.lemmas.Option.{unwrap_or-slice_get}
use Rattle.game.specs.Positions.{Position, blank, target_at}

abbrev pub target_in : Option Position → ℕ → Option ℕ
target_in o k = slice_get (unwrap_or o blank).moves k

pub target_read : (ps : List Position) (u k : ℕ) → target_at ps u k ≡ target_in (slice_get ps u) k
target_read ps u k = ap (λ (x : Position). slice_get x.moves k) (sym (unwrap_or-slice_get ps u blank))
