-- The check's value: the first rule that a sheet breaks, at the first position that breaks one.
use Rattle.std.specs.Prelude.{◌≡◌, ℕ, ◌+◌, Bool, cond, not, ◌||◌, List, length, Some, None, Option, ◌==◌, nat_le, nat_lt}
use Rattle.std.specs.Option.{option_map}
use Rattle.std.specs.declared.ops.Range.{Range}
use Rattle.game.specs.declared.side.Side.{Side}
use Rattle.game.specs.declared.sheet.Entry.{Entry}
use Rattle.game.specs.Sides.{same, side_of}
use Rattle.game.specs.Positions.{Position, position, degree, target}
use Rattle.game.specs.Sheets.{entry_of, SameColours}
use Rattle.game.specs.Rules.{KeepsRules}
use Rattle.game.specs.Refusals.{Refused, refused, refused_at}
use Rattle.game.specs.First.{first_below, all_below, unless}

-- Rule 22 as a test: own says whether the colour owns the position.
abbrev pub choice_fits : Bool → ℕ → ℕ → Bool
choice_fits own choice n = cond own (nat_lt choice n) (choice == 0)

-- A test of each move that counts: of the chosen one where the colour owns the position, else of all n.
abbrev pub each_counting : Bool → ℕ → ℕ → (ℕ → Bool) → Bool
each_counting own choice n f = cond own (f choice) (all_below f n)

-- The moves that count.
abbrev pub counting : Bool → ℕ → ℕ → Range ℕ
counting own choice n = cond own (record { start = choice; end = choice + 1 }) (record { start = 0; end = n })

-- Rule 23 as a test of move k: it leads to an entry of the same colour.
abbrev pub keeps_colour : List Position → List Entry → ℕ → ℕ → Bool
keeps_colour ps es v k = (entry_of es (target ps v k)).colour == (entry_of es v).colour

-- Rule 24 as a test: alike says whether the kind is the colour.
abbrev pub rank_fits : Bool → ℕ → Bool
rank_fits alike rank = cond alike (rank == 0) (nat_le 1 rank)

-- Rule 25 as a test of move k: it leaves the level, or leads to a smaller rank.
abbrev pub rank_falls : List Position → List Entry → ℕ → ℕ → Bool
rank_falls ps es v k = not ((position ps (target ps v k)).level == (position ps v).level) || nat_lt (entry_of es (target ps v k)).rank (entry_of es v).rank

-- The first broken one of the rules 22 to 25, by whether each is kept.
abbrev pub first_broken : Bool → Bool → Bool → Bool → Option ℕ
first_broken choice moves rank falls = unless choice 22 (unless moves 23 (unless rank 24 (unless falls 25 None)))

-- The number of the first one of the rules 22 to 25 that the entry of v breaks, c being its colour.
unfoldable pub broken_for : List Position → List Entry → ℕ → Side → Option ℕ
broken_for ps es v c =
    let own = same c (position ps v).owner in
    let kind = same c (position ps v).kind in
    let each = each_counting own (entry_of es v).choice (degree ps v) in
    first_broken
    (choice_fits own (entry_of es v).choice (degree ps v))
    (each (keeps_colour ps es v))
    (rank_fits kind (entry_of es v).rank)
    (kind || each (rank_falls ps es v))

-- The same with rule 21 before them: the colour is a side.
abbrev pub broken_by : List Position → List Entry → ℕ → Option Side → Option ℕ
broken_by ps es v None = Some 21
broken_by ps es v (Some c) = broken_for ps es v c

-- The refusal at v, if its entry breaks a rule.
abbrev pub refused_by : List Position → List Entry → ℕ → Option Refused
refused_by ps es v = option_map (refused_at v) (broken_by ps es v (side_of (entry_of es v).colour))

-- The length first, then the positions from 0 upwards. Nothing where the sheet is accepted.
abbrev pub checked : List Position → List Entry → Option Refused
checked ps es = unless (length es == length ps) (refused 11) (first_below (refused_by ps es) (length ps))

-- The check accepts exactly the sheets that keep the rules.
pub record AcceptsKeeping (ps : List Position) (es : List Entry) (answer : Option Refused) : Type 0 where
  pub sound : answer ≡ None → KeepsRules ps es
  pub complete : KeepsRules ps es → answer ≡ None

-- Every other sheet that the check accepts for the game has the same colours.
abbrev pub UniqueColours : List Position → List Entry → Type 0
UniqueColours ps es = (fs : List Entry) → checked ps fs ≡ None → SameColours ps es fs
