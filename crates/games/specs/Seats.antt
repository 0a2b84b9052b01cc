-- Where a position of a pair lies. For the contract of a private method, no promise rests on it.
use Rattle.std.specs.Prelude.{◌≡◌, ℕ, ◌+◌, ◌<◌}
use Rattle.games.specs.declared.seat.Seat.{Seat}
use Rattle.games.specs.declared.seat.Seat.TheVariants.{Head, First, Second}

-- The seat of position u in a pair whose first game has n positions: the head is 0, the first game's positions follow, then the second's.
abbrev pub IsSeat : ℕ → ℕ → Seat → Type 0
IsSeat n u Head = u ≡ 0
IsSeat n u (First v) = (u ≡ 1 + v) × (v < n)
IsSeat n u (Second v) = u ≡ 1 + n + v
