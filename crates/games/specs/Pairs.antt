-- Why two games make no pair.
use Rattle.game.specs.Refusals.{Refused, refused}
use Rattle.games.specs.declared.pair_fault.PairFault.{PairFault}
use Rattle.games.specs.declared.pair_fault.PairFault.TheVariants as variant

-- What a fault tells: its number.
abbrev pub tells : PairFault → Refused
tells variant.Absent = refused 12
tells variant.Count = refused 13
