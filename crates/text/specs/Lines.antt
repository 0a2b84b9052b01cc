-- The lines of a text.
use Rattle.std.specs.Prelude.{ℕ, Bool, true, false, cond, List, [], ◌∷◌}
use Rattle.text.specs.declared.class.Class.TheVariants.{LineFeed}
use Rattle.text.specs.Classes.{of_class}

-- A line: its bytes, and whether a line feed ends it.
pub record Line : Type 0 where
  pub bytes : List ℕ
  pub ended : Bool

-- Some lines, with one more byte before the first. Before no line it is a line that is not ended.
abbrev pub prefixed : ℕ → List Line → List Line
prefixed b [] = record { bytes = b ∷ []; ended = false } ∷ []
prefixed b (l ∷ ls) = record { bytes = b ∷ l.bytes; ended = l.ended } ∷ ls

-- The lines of a text, cut at its line feeds. Bytes after the last line feed are a line; nothing after it is none.
unfoldable pub lines_of : List ℕ → List Line
lines_of [] = []
lines_of (b ∷ bs) = cond (of_class LineFeed b) (record { bytes = []; ended = true } ∷ lines_of bs) (prefixed b (lines_of bs))
