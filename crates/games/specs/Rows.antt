-- Which game two lists make, a list of rows and a list of targets, or why they make none.
use Rattle.std.specs.Prelude.{ℕ, ◌+◌, Bool, cond, not, ◌&&◌, ◌||◌, List, [], ◌∷◌, map, length, take, drop, None, Option, ◌==◌, nat_le, nat_lt, slice_index_or, ◌++◌, codes, decimal}
use Rattle.std.specs.List.{list_all}
use Rattle.game.specs.declared.side.Side.{Side}
use Rattle.game.specs.declared.side.Side.TheVariants.{Green, Red}
use Rattle.game.specs.Positions.{Position}
use Rattle.game.specs.Laws.{most_positions, most_moves}
use Rattle.game.specs.Refusals.{Refused, refused, refused_at}
use Rattle.game.specs.First.{first_below, unless}
use Rattle.games.specs.declared.row.Row.{Row}
use Rattle.games.specs.declared.row.RowsFault.{RowsFault}
use Rattle.games.specs.declared.row.RowsFault.TheVariants as variant

-- The side that a row writes as n: Green as 0, Red as 1. In a game no row writes another number.
abbrev pub side_in : ℕ → Side
side_in n = cond (n == 0) Green Red

-- The targets in a row's span.
abbrev pub span_of : List ℕ → Row → List ℕ
span_of ts r = take r.count (drop r.first ts)

-- The position that a row stands for.
abbrev pub position_of : List ℕ → Row → Position
position_of ts r = record { owner = side_in r.owner; level = r.level; kind = side_in r.kind; moves = span_of ts r }

-- The game that the lists make.
abbrev pub meaning_of : List Row → List ℕ → List Position
meaning_of rs ts = map (position_of ts) rs

-- What is read past the end of the rows.
abbrev pub blank_row : Row
blank_row = record { owner = 0; level = 0; kind = 0; first = 0; count = 0 }

-- The row with number i.
abbrev pub row_of : List Row → ℕ → Row
row_of rs i = slice_index_or rs i blank_row

-- The span lies in the list of targets. (It is no longer than a position's moves may be, which 16 bits always keep.)
abbrev pub span_fits : List ℕ → Row → Bool
span_fits ts r = nat_le (r.first + r.count) (length ts) && nat_le r.count most_moves

-- Target t is a row.
abbrev pub is_inside : List Row → ℕ → Bool
is_inside rs t = nat_lt t (length rs)

-- A row is well formed: its sides are sides, its span fits, and its targets are rows.
abbrev pub well_formed : List Row → List ℕ → Row → Bool
well_formed rs ts r = nat_le r.owner 1 && (nat_le r.kind 1 && (span_fits ts r && list_all (is_inside rs) (span_of ts r)))

-- A move from row r to row t keeps the laws: t's level is not lower, and where it is the same so is the kind.
abbrev pub keeps_law : Row → Row → Bool
keeps_law r t = nat_le r.level t.level && (not (r.level == t.level) || r.kind == t.kind)

-- The move of row r to target t keeps the laws.
abbrev pub is_lawful : List Row → Row → ℕ → Bool
is_lawful rs r t = keeps_law r (row_of rs t)

-- A row keeps the laws: its level is below the number of rows, and each of its moves keeps both laws.
abbrev pub keeps_laws : List Row → List ℕ → Row → Bool
keeps_laws rs ts r = nat_lt r.level (length rs) && list_all (is_lawful rs r) (span_of ts r)

-- The refusal at row i.
abbrev pub row_refusal : List Row → List ℕ → ℕ → Option Refused
row_refusal rs ts i = unless (well_formed rs ts (row_of rs i)) (refused_at i 15) (unless (keeps_laws rs ts (row_of rs i)) (refused_at i 16) None)

-- The number of rows first, then row by row. Nothing where the lists make a game.
abbrev pub rows_refusal : List Row → List ℕ → Option Refused
rows_refusal rs ts = unless (nat_le 1 (length rs) && nat_le (length rs) most_positions) (refused 14) (first_below (row_refusal rs ts) (length rs))

-- What a fault tells: its number, and the row.
abbrev pub tells : RowsFault → Refused
tells variant.Count = refused 14
tells (variant.Malformed i) = refused_at i 15
tells (variant.Unlawful i) = refused_at i 16

-- How the values of a fault are printed: the first one as a row, if there is one.
abbrev pub row_text : List ℕ → List ℕ
row_text [] = []
row_text (i ∷ _) = codes " at row " ++ decimal i

-- How a fault is printed: its number, then its row if it has one.
abbrev pub fault_text : RowsFault → List ℕ
fault_text fault = codes "refused " ++ (decimal (tells fault).number ++ row_text (tells fault).values)
