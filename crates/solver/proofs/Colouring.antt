-- The sheet, once all is filled in.
use Rattle.std.proofs.Common.{◌≡◌, ℕ, ◌≤◌, List, length, sym, ap, ◌∙◌, arith}
use Rattle.std.proofs.lemmas.List.FromFn.{fill_by_all}
use Rattle.game.specs.declared.sheet.Entry.{Entry}
use Rattle.game.specs.Sides.{number_of}
use Rattle.game.specs.Positions.{Position}
use Rattle.game.specs.Laws.{Lawful}
use Rattle.game.specs.Sheets.{blank_entry, entry_of}
use Rattle.rounds.specs.Rounds.{entry_for, colouring}
use Rattle.rounds.proofs.Levels.{colour_is}
use Rattle.solver.specs.Stages.{Filled}

entry_same : (e f : Entry) → e.colour ≡ f.colour → e.choice ≡ f.choice → e.rank ≡ f.rank → e ≡ f
entry_same e f a b c =
    let whole : ◌≡◌ {A = Entry} (record { colour = e.colour; choice = e.choice; rank = e.rank }) (record { colour = f.colour; choice = f.choice; rank = f.rank }) = cc in
    whole

pub filled_all : (ps : List Position) → Lawful ps → (es : List Entry) (i : ℕ) → length ps ≤ i → Filled ps i es → es ≡ colouring ps
filled_all ps lawful es i h f =
    fill_by_all (entry_for ps) es (length ps) blank_entry f.done.sized (λ v b.
    let m = f.done.marked v b (omega arith) in
    entry_same (entry_of es v) (entry_for ps v) (m.colour ∙ ap number_of (sym (colour_is ps lawful v b))) (f.chosen v (omega arith) b) m.rank)
