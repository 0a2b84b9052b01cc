use Rattle.std.proofs.Common.{◌≡◌, ℕ, ◌+◌, ◌-◌, List, ◌∷◌, true, length, take, drop, sym, ap, ◌∙◌, rules, tests, arith, length-drop, length-take}
use Rattle.std.proofs.lemmas.Iterator.{YieldsList-from_slice}
use Rattle.std.proofs.lemmas.Iterator.Search.{position_from_yields_List}
use Rattle.std.proofs.lemmas.List.{take_all, drop_all}
use Rattle.std.specs.List.{position}
use Rattle.text.specs.declared.class.Class.TheVariants.{LineFeed}
use Rattle.text.specs.Classes.{of_class}
use Rattle.text.specs.Lines.{lines_of}
use Rattle.text.proofs.Cuts.{found_within, found_line, not_found_line}
use Rattle.text.proofs.lines.first_line.Goals as goal
use Rattle.text.proofs.lines.first_line.Goals.{After-position-end}

found : (c : After-position-end) → c.position-end.result ≡ position (of_class LineFeed) c.args.text.now
found c = position_from_yields_List (of_class LineFeed) _ _ _ c.position-end.ensures.ran (YieldsList-from_slice c.args.text.now cc) (λ x b q k. search (rules, tests))

pub returns-in-Some : goal.returns-in-Some
returns-in-Some c =
    let text = c.args.text.now in
    let end = c.in-Some.end in
    let is = sym (found (goal.at-returns-in-Some c).After-position-end) ∙ c.in-Some.is in
    let within = (found_within text end is).1 in
    let left = length-drop (end + 1) text in
    let rest = take_all (length text - (end + 1)) (drop (end + 1) text) (omega arith) in
    let taken : length (take end text) ≡ end = simp length-take (omega arith) in
    record {
      first = found_line text end is ∙ ap (λ (bs : List ℕ). record { bytes = take end text; ended = true } ∷ lines_of bs) (sym rest);
      rest = rest ∙ ap (λ (n : ℕ). drop (n + 1) text) (sym taken);
      shorter = omega (arith, ap length rest);
    }

pub returns-in-None : goal.returns-in-None
returns-in-None c =
    let is = sym (found (goal.at-returns-in-None c).After-position-end) ∙ c.in-None.is in
    record { first = not_found_line c.args.text.now c.requires is; rest = sym (drop_all _ c.args.text.now (omega arith)); shorter = c.requires }
