-- The tokens of a line.
use Rattle.std.specs.Prelude.{ℕ, suc, ◌+◌, ◌-◌, ◌*◌, Bool, true, false, cond, ◌&&◌, ◌||◌, List, [], ◌∷◌, length, Some, None, fold, Option, ◌==◌, nat_lt, if◌then◌else◌}
use Rattle.std.specs.Option.{option_map, option_or}
use Rattle.std.specs.Bool.{then_some}
use Rattle.std.specs.List.{prefix_len}
use Rattle.text.specs.declared.class.Class.{Class}
use Rattle.text.specs.declared.class.Class.TheVariants.{Opening, Closing, Space, LineFeed, Digit, Letter, Other}
use Rattle.text.specs.declared.place.Place.{Place}
use Rattle.text.specs.Classes.{class_of, of_class}
use Rattle.text.specs.Refusals.{Refused, refused_at}

-- A token: the class of its bytes, the bytes, and the place of the first.
pub record Lexeme : Type 0 where
  pub class : Class
  pub bytes : List ℕ
  pub place : Place

-- Whether bytes of a class go together in one token: digits do, and letters.
abbrev pub go_together : Class → Bool
go_together Opening = false
go_together Closing = false
go_together Space = false
go_together LineFeed = false
go_together Digit = true
go_together Letter = true
go_together Other = false

-- How many bytes are in the first of some tokens, which begins with a byte of class k.
abbrev pub lexeme_length : Class → List ℕ → ℕ
lexeme_length k bs = if go_together k then prefix_len (of_class k) bs else 1

-- Whether a byte begins a token that goes on with the next byte.
abbrev pub goes_on : ℕ → List ℕ → Bool
goes_on b [] = false
goes_on b (c ∷ cs) = go_together (class_of b) && of_class (class_of b) c

-- The first of some tokens, with one more byte before it.
abbrev pub widened : ℕ → Place → List Lexeme → List Lexeme
widened b p [] = []
widened b p (t ∷ ts) = record { class = t.class; bytes = b ∷ t.bytes; place = p } ∷ ts

-- What a byte is to the tokens after it: a space is none of them, a digit or a letter before its like widens the first, any other byte begins a token.
abbrev pub joined : ℕ → Place → List ℕ → List Lexeme → List Lexeme
joined b p bs ts = cond (of_class Space b) ts (cond (goes_on b bs) (widened b p ts) (record { class = class_of b; bytes = b ∷ []; place = p } ∷ ts))

-- The tokens of what is left of line n from an offset on.
unfoldable pub lexemes : ℕ → ℕ → List ℕ → List Lexeme
lexemes n at [] = []
lexemes n at (b ∷ bs) = joined b (record { line = n; offset = at }) bs (lexemes n (suc at) bs)

-- The number that digits write.
abbrev pub numeral : List ℕ → ℕ
numeral bs = fold (λ v b. 10 * v + (b - 48)) 0 bs

-- Whether digits begin with a 0 before more digits.
abbrev pub zero_first : List ℕ → Bool
zero_first [] = false
zero_first (b ∷ []) = false
zero_first (b ∷ c ∷ bs) = b == 48

-- The largest number, and the most letters of a word.
abbrev pub most_number : ℕ
most_number = 65535

abbrev pub most_letters : ℕ
most_letters = 8

-- What is wrong with a token: 41 a byte of class other, 42 a number that is too large or has a 0 before more digits, 43 a word that is too long.
abbrev pub fault_of : Class → List ℕ → Option ℕ
fault_of Opening bs = None
fault_of Closing bs = None
fault_of Space bs = None
fault_of LineFeed bs = Some 41
fault_of Digit bs = then_some (nat_lt most_number (numeral bs) || zero_first bs) 42
fault_of Letter bs = then_some (nat_lt most_letters (length bs)) 43
fault_of Other bs = Some 41

-- The refusal of a token.
abbrev pub lexeme_refusal : Lexeme → Option Refused
lexeme_refusal t = option_map (refused_at t.place) (fault_of t.class t.bytes)

-- The refusal of the first token at fault.
unfoldable pub lexical_refusal : List Lexeme → Option Refused
lexical_refusal [] = None
lexical_refusal (t ∷ ts) = option_or (lexeme_refusal t) (lexical_refusal ts)
