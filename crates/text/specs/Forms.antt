-- The shape of a line: one bracketed form with a word after each opening bracket, not nested too deep.
use Rattle.std.specs.Prelude.{ℕ, suc, pred, Bool, true, false, cond, ◌&&◌, List, [], ◌∷◌, Some, None, fold, Option, ◌==◌, nat_lt}
use Rattle.std.specs.Option.{option_map, option_or}
use Rattle.text.specs.declared.class.Class.{Class}
use Rattle.text.specs.declared.class.Class.TheVariants.{Opening, Closing, Space, LineFeed, Digit, Letter, Other}
use Rattle.text.specs.declared.place.Place.{Place}
use Rattle.text.specs.declared.shape.Shape.{Shape}
use Rattle.text.specs.declared.shape.Shape.TheVariants.{Start, Due, Inside, Done, Broken}
use Rattle.text.specs.Refusals.{Refused, refused_at}
use Rattle.text.specs.Tokens.{Lexeme, lexical_refusal}

-- How deep forms may be nested. The outermost is 1 deep.
abbrev pub most_depth : ℕ
most_depth = 64

-- Where a closing bracket leads from depth d: out of the outermost form the line is done.
abbrev pub closed : ℕ → Shape
closed d = cond (d == 1) Done (Inside (pred d))

-- What a token makes of a line's shape: after an opening bracket a word is due, inside a form anything may come, and after the one form nothing.
abbrev pub shape_after : Shape → Class → Shape
shape_after Start Opening = Due 1
shape_after Start Closing = Broken
shape_after Start Space = Broken
shape_after Start LineFeed = Broken
shape_after Start Digit = Broken
shape_after Start Letter = Broken
shape_after Start Other = Broken
shape_after (Due d) Opening = Broken
shape_after (Due d) Closing = Broken
shape_after (Due d) Space = Broken
shape_after (Due d) LineFeed = Broken
shape_after (Due d) Digit = Broken
shape_after (Due d) Letter = Inside d
shape_after (Due d) Other = Broken
shape_after (Inside d) Opening = Due (suc d)
shape_after (Inside d) Closing = closed d
shape_after (Inside d) Space = Broken
shape_after (Inside d) LineFeed = Broken
shape_after (Inside d) Digit = Inside d
shape_after (Inside d) Letter = Inside d
shape_after (Inside d) Other = Broken
shape_after Done c = Broken
shape_after Broken c = Broken

-- The shape of a line after its tokens.
abbrev pub shape_of : Shape → List Lexeme → Shape
shape_of s ts = fold (λ x t. shape_after x t.class) s ts

-- Whether the line is one form.
abbrev pub is_done : Shape → Bool
is_done Start = false
is_done (Due d) = false
is_done (Inside d) = false
is_done Done = true
is_done Broken = false

-- Whether a form has just been opened too deep.
abbrev pub is_deep : Shape → Bool
is_deep Start = false
is_deep (Due d) = nat_lt most_depth d
is_deep (Inside d) = false
is_deep Done = false
is_deep Broken = false

-- The place of the first bracket that opens a form too deep.
unfoldable pub deep_place : Shape → List Lexeme → Option Place
deep_place s [] = None
deep_place s (t ∷ ts) = cond (is_deep (shape_after s t.class)) (Some t.place) (deep_place (shape_after s t.class) ts)

-- 50 at the line's first byte where line n is not ended or not one form; then 51 at the first bracket that opens a form too deep.
abbrev pub shape_refusal : ℕ → Bool → List Lexeme → Option Refused
shape_refusal n ended ts = cond (ended && is_done (shape_of Start ts)) (option_map (λ p. refused_at p 51) (deep_place Start ts)) (Some (refused_at (record { line = n; offset = 0 }) 50))

-- Line n: its tokens first, then its shape.
abbrev pub line_refusal : ℕ → Bool → List Lexeme → Option Refused
line_refusal n ended ts = option_or (lexical_refusal ts) (shape_refusal n ended ts)
