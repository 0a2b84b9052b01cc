-- One token more is read.
use Rattle.std.proofs.Common.{◌≡◌, ℕ, ◌+◌, ◌<◌, List, ◌∷◌, length, get_or, take, drop, sym, ap, ◌∙◌, add_assoc, arith}
use Rattle.std.specs.List.{prefix_len}
use Rattle.std.proofs.lemmas.List.{drop-drop, length-drop}
use Rattle.text.specs.declared.class.Class.{Class}
use Rattle.text.specs.declared.class.Class.TheVariants.{Space}
use Rattle.text.specs.declared.place.Place.{Place}
use Rattle.text.specs.declared.tokens.Tokens.{Tokens}
use Rattle.text.specs.Classes.{class_of, of_class}
use Rattle.text.specs.Tokens.{Lexeme, lexeme_length, lexemes}
use Rattle.text.specs.Reading.{lexemes_left, Passes, IsFurther}
use Rattle.text.proofs.Lexemes.{spaces_lexemes, first_lexeme, some_bytes, no_more}

-- what is left after some bytes
left_after : (count : ℕ) (s t : Tokens) → Passes count s t → lexemes_left t ≡ lexemes s.place.line (s.place.offset + count) (drop count s.rest.now)
left_after count s t on = ap (λ (p : Place). lexemes p.line p.offset t.rest.now) on.place ∙ ap (lexemes s.place.line (s.place.offset + count)) on.rest

module _ (s u : Tokens) (spaces : ℕ) (all : spaces ≡ prefix_len (of_class Space) s.rest.now) (past : Passes spaces s u) where
  -- spaces are no tokens
  pub past_spaces : lexemes_left s ≡ lexemes_left u
  past_spaces =
      spaces_lexemes s.place.line s.rest.now s.place.offset
      ∙ ap (λ (m : ℕ). lexemes s.place.line (s.place.offset + m) (drop m s.rest.now)) (sym all)
      ∙ sym (left_after spaces s u past)

  module _ (some : 0 < length u.rest.now) (k : Class) (front : class_of (get_or u.rest.now 0 0) ≡ k) where
    -- and no space is left at the front
    pub no_space_left : k ≡ Space → ⊥
    no_space_left is = no_more s.rest.now u.rest.now spaces all past.rest some (front ∙ is)

    module _ (t : Tokens) (count : ℕ) (word : List ℕ) (length_is : count ≡ lexeme_length k u.rest.now) (word_is : word ≡ take count u.rest.now) (on : Passes count u t) where
      -- then comes the token
      pub token_read : lexemes_left s ≡ record { class = k; bytes = word; place = u.place } ∷ lexemes_left t
      token_read =
          past_spaces
          ∙ first_lexeme u.place.line u.place.offset u.rest.now k some front no_space_left
          ∙ ap (λ (m : ℕ). record { class = k; bytes = take m u.rest.now; place = u.place } ∷ lexemes u.place.line (u.place.offset + m) (drop m u.rest.now)) (sym length_is)
          ∙ ap (λ (bs : List ℕ). record { class = k; bytes = bs; place = u.place } ∷ lexemes u.place.line (u.place.offset + count) (drop count u.rest.now)) (sym word_is)
          ∙ ap (λ (ls : List Lexeme). record { class = k; bytes = word; place = u.place } ∷ ls) (sym (left_after count u t on))

      pub token_further : IsFurther s t
      token_further =
          let (more, within) = some_bytes k u.rest.now some front in
          let left = ap length past.rest ∙ length-drop spaces s.rest.now in
          (spaces + count, omega arith, omega arith, record { rest = on.rest ∙ ap (drop count) past.rest ∙ drop-drop count spaces s.rest.now; place = on.place ∙ ap (λ (p : Place). record { line = p.line; offset = p.offset + count }) past.place ∙ ap (λ (n : ℕ). record { line = s.place.line; offset = n }) (add_assoc s.place.offset spaces count) })

pub onward : (s t : Tokens) → IsFurther s t → s.place.offset < t.place.offset
onward s t (count, some, within, on) = let at = ap (λ (p : Place). p.offset) on.place in omega arith
