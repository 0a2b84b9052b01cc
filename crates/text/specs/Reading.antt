-- How a reader goes through the lines of a text and the tokens of a line. For the contracts of private functions; no promise rests on this.
use Rattle.std.specs.Prelude.{◌≡◌, ℕ, ◌+◌, ◌<◌, ◌≤◌, List, [], ◌∷◌, length, drop, Some, None, Option, Result, IfOk, is_some}
use Rattle.std.specs.Option.{option_map_or}
use Rattle.text.specs.declared.class.Class.TheVariants.{Opening, Closing, Digit, Letter}
use Rattle.text.specs.declared.place.TextRefusal.{TextRefusal}
use Rattle.text.specs.declared.shape.Shape.{Shape}
use Rattle.text.specs.declared.shape.Shape.TheVariants.{Start, Due, Inside, Done, Broken}
use Rattle.text.specs.declared.token.Token.{Token}
use Rattle.text.specs.declared.token.Token.TheVariants as token
use Rattle.text.specs.declared.tokens.Tokens.{Tokens}
use Rattle.text.specs.declared.lines.Line as declared
use Rattle.text.specs.Refusals.{told}
use Rattle.text.specs.Lines.{lines_of}
use Rattle.text.specs.Tokens.{Lexeme, lexemes, lexeme_refusal}

-- A token as a lexeme.
abbrev pub lexeme_of : Token → Lexeme
lexeme_of (token.Opening p) = record { class = Opening; bytes = 40 ∷ []; place = p }
lexeme_of (token.Closing p) = record { class = Closing; bytes = 41 ∷ []; place = p }
lexeme_of (token.Word w p) = record { class = Letter; bytes = w.now; place = p }
lexeme_of (token.Number w p) = record { class = Digit; bytes = w.now; place = p }

-- A lexeme is read as its refusal, or else as the token that it is.
pub record IsReadingOf (l : Lexeme) (r : Result Token TextRefusal) : Type 0 where
  pub refusal : told r ≡ lexeme_refusal l
  pub token : IfOk r (λ t. lexeme_of t ≡ l)

-- The tokens of what is left of a line.
abbrev pub lexemes_left : Tokens → List Lexeme
lexemes_left s = lexemes s.place.line s.place.offset s.rest.now

-- t is s, a number of bytes further on.
pub record Passes (count : ℕ) (s t : Tokens) : Type 0 where
  pub rest : t.rest.now ≡ drop count s.rest.now
  pub place : t.place ≡ record { line = s.place.line; offset = s.place.offset + count }

-- t is further on than s, and not past the end of the line.
abbrev pub IsFurther : Tokens → Tokens → Type 0
IsFurther s t = (count : ℕ) × (0 < count) × (count ≤ length s.rest.now) × Passes count s t

-- What is read at s: the first token, with the others left at t; or nothing, where there are no more.
abbrev pub NextToken : Tokens → Option (Result Token TextRefusal) → Tokens → Type 0
NextToken s None t = (lexemes_left s ≡ []) × (lexemes_left t ≡ [])
NextToken s (Some r) t = (l : Lexeme) × IsReadingOf l r × (lexemes_left s ≡ l ∷ lexemes_left t) × IsFurther s t

-- How deep a shape is nested.
abbrev pub depth_of : Shape → ℕ
depth_of Start = 0
depth_of (Due d) = d
depth_of (Inside d) = d
depth_of Done = 0
depth_of Broken = 0

-- The text that follows a line.
abbrev pub text_after : declared.Line → List ℕ
text_after l = option_map_or (λ rest. rest.now) l.after []

-- The first line of a text, and what follows it.
pub record FirstLine (text : List ℕ) (l : declared.Line) : Type 0 where
  pub first : lines_of text ≡ record { bytes = l.bytes.now; ended = is_some l.after } ∷ lines_of (text_after l)
  pub rest : text_after l ≡ drop (length l.bytes.now + 1) text
  pub shorter : length (text_after l) < length text
