-- The rules at one entry, told in order.
use Rattle.std.proofs.Common.{◌≡◌, ℕ, Bool, ◌||◌, List}
use denote.Enum.Bare.{sameb}
use Rattle.game.specs.contracts.side.Side.{the_type}
use Rattle.std.specs.Option.{option_map}
use Rattle.game.specs.declared.side.Side.{Side}
use Rattle.game.specs.declared.sheet.Entry.{Entry}
use Rattle.game.specs.Positions.{Position, position, degree}
use Rattle.game.specs.Sheets.{entry_of}
use Rattle.game.specs.Refusals.{refused_at}
use Rattle.game.specs.Checking.{choice_fits, each_counting, keeps_colour, rank_fits, rank_falls, first_broken, broken_for}
use Rattle.game.proofs.Sides.{same_is}

-- the rules at v for the colour c, by tests of what is read there: its entry e, and how its owner o and its kind k compare with c
pub broken_is : (ps : List Position) (es : List Entry) (v : ℕ) (c : Side) {e : Entry} {o k : Side} {own alike : Bool} {n : ℕ} {choice colour rank falls : Bool}
    → e ≡ entry_of es v → own ≡ sameb the_type c o → o ≡ (position ps v).owner → alike ≡ sameb the_type c k → k ≡ (position ps v).kind → n ≡ degree ps v
    → choice ≡ choice_fits own e.choice n
    → colour ≡ each_counting own e.choice n (keeps_colour ps es v)
    → rank ≡ rank_fits alike e.rank
    → falls ≡ (alike || each_counting own e.choice n (rank_falls ps es v))
    → option_map (refused_at v) (first_broken choice colour rank falls) ≡ option_map (refused_at v) (broken_for ps es v c)
unfolding broken_for
broken_is ps es v c {o = o} {k = k} entry a owner b kind moves w x y z =
    let own = same_is _ c o _ a owner in
    let alike = same_is _ c k _ b kind in
    cc
