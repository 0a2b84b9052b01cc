-- The first line of a text, and the others.
use Rattle.std.proofs.Common.{◌≡◌, ℕ, suc, ◌+◌, ◌<◌, ◌≤◌, true, false, not, List, [], ◌∷◌, length, take, drop, Some, None, sym, ap, ◌∙◌, inl, inr, one-add, add-one, arith}
use Rattle.std.specs.List.{position, position_or_len}
use Rattle.std.proofs.lemmas.Bool.{cases_Bool, cond-true, cond-false}
use Rattle.std.proofs.lemmas.Bool.Decides.{nat_tests}
use Rattle.text.specs.declared.class.Class.TheVariants.{LineFeed}
use Rattle.text.specs.Classes.{of_class}
use Rattle.text.specs.Lines.{Line, prefixed, lines_of}

-- where the first line ends
abbrev end_of : List ℕ → ℕ
end_of bs = position_or_len (of_class LineFeed) bs

-- at a line feed it is over
end_at_feed : (b : ℕ) (bs : List ℕ) → of_class LineFeed b ≡ true → end_of (b ∷ bs) ≡ 0
end_at_feed b bs feed = cond-false _ _ _ (ap not feed)

-- any other byte is in it
end_past : (b : ℕ) (bs : List ℕ) → of_class LineFeed b ≡ false → end_of (b ∷ bs) ≡ suc (end_of bs)
end_past b bs other = cond-true _ _ _ (ap not other) ∙ one-add (end_of bs)

-- the line of the first m bytes, and the lines after the line feed that ends it
abbrev cut_at : List ℕ → ℕ → List Line
cut_at bs m = record { bytes = take m bs; ended = true } ∷ lines_of (drop (suc m) bs)

ended_line : (bs : List ℕ) → end_of bs < length bs → lines_of bs ≡ cut_at bs (end_of bs)
unfolding lines_of
ended_line [] h = absurd (omega arith)
ended_line (b ∷ bs) h = elim (cases_Bool (of_class LineFeed b)) [
  | inl feed ↦ cond-true _ _ _ feed ∙ ap (cut_at (b ∷ bs)) (sym (end_at_feed b bs feed))
  | inr other ↦
      let past = end_past b bs other in
      cond-false _ _ _ other ∙ ap (prefixed b) (ended_line bs (omega arith)) ∙ ap (cut_at (b ∷ bs)) (sym past)
]

-- the only byte is the whole line
one_line : (b : ℕ) → of_class LineFeed b ≡ false → lines_of (b ∷ []) ≡ record { bytes = b ∷ []; ended = false } ∷ []
unfolding lines_of
one_line b other = cond-false _ _ _ other

more_line : (b : ℕ) (bs : List ℕ) → of_class LineFeed b ≡ false → lines_of bs ≡ record { bytes = bs; ended = false } ∷ [] → lines_of (b ∷ bs) ≡ record { bytes = b ∷ bs; ended = false } ∷ []
unfolding lines_of
more_line b bs other e = cond-false _ _ _ other ∙ ap (prefixed b) e

-- where no line feed comes, no byte is one
no_feed : (b : ℕ) (bs : List ℕ) → length (b ∷ bs) ≤ end_of (b ∷ bs) → (of_class LineFeed b ≡ false) × (length bs ≤ end_of bs)
no_feed b bs h = elim (cases_Bool (of_class LineFeed b)) [
  | inl feed ↦ let over = end_at_feed b bs feed in absurd (omega arith)
  | inr other ↦ let past = end_past b bs other in (other, omega arith)
]

-- with no line feed a text is one line
last_line : (bs : List ℕ) (b : ℕ) → length (b ∷ bs) ≤ end_of (b ∷ bs) → lines_of (b ∷ bs) ≡ record { bytes = b ∷ bs; ended = false } ∷ []
last_line [] b h = one_line b (no_feed b [] h).0
last_line (c ∷ cs) b h = let (other, more) = no_feed b (c ∷ cs) h in more_line b (c ∷ cs) other (last_line cs c more)

-- by what a search for the line feed finds
pub found_within : (text : List ℕ) (end : ℕ) → position (of_class LineFeed) text ≡ Some end → (end ≡ end_of text) × (end < length text)
found_within text end e = grind (arith, nat_tests)

none_within : (text : List ℕ) → position (of_class LineFeed) text ≡ None → length text ≤ end_of text
none_within text e = grind (arith, nat_tests)

pub found_line : (text : List ℕ) (end : ℕ) → position (of_class LineFeed) text ≡ Some end → lines_of text ≡ record { bytes = take end text; ended = true } ∷ lines_of (drop (end + 1) text)
found_line text end e =
    let (is, within) = found_within text end e in
    ended_line text (omega arith) ∙ ap (cut_at text) (sym is) ∙ ap (λ (m : ℕ). record { bytes = take end text; ended = true } ∷ lines_of (drop m text)) (sym (add-one end))

pub not_found_line : (text : List ℕ) → 0 < length text → position (of_class LineFeed) text ≡ None → lines_of text ≡ record { bytes = text; ended = false } ∷ lines_of []
unfolding lines_of
not_found_line [] some e = absurd (omega arith)
not_found_line (b ∷ bs) some e = last_line bs b (none_within (b ∷ bs) e)
