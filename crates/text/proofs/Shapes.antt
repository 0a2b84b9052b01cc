-- A line's shape, one token after another: what is left decides.
use Rattle.std.proofs.Common.{◌≡◌, Bool, true, false, cond, List, [], ◌∷◌, Some, None, Option, sym, refl, ap, ◌∙◌}
use Rattle.std.specs.Option.{option_or}
use Rattle.std.specs.Bool.{then_some}
use Rattle.text.specs.declared.place.Place.{Place}
use Rattle.text.specs.declared.shape.Shape.{Shape}
use Rattle.text.specs.Refusals.{Refused}
use Rattle.text.specs.Tokens.{Lexeme, lexeme_refusal, lexical_refusal}
use Rattle.text.specs.Forms.{shape_after, shape_of, is_deep, deep_place}

-- no more tokens
module _ (rest : List Lexeme) (none : rest ≡ []) where
  pub lexical_end : lexical_refusal rest ≡ None
  unfolding lexical_refusal
  lexical_end = ap lexical_refusal none

  pub deep_end : (s : Shape) (d : Option Place) → option_or d (deep_place s rest) ≡ d
  unfolding deep_place
  deep_end s None = ap (deep_place s) none
  deep_end s (Some p) = refl

-- one token more
module _ (rest more : List Lexeme) (t : Lexeme) (is : rest ≡ t ∷ more) where
  -- at fault, the first of those that are left
  pub lexical_first : (r : Refused) → Some r ≡ lexeme_refusal t → Some r ≡ lexical_refusal rest
  unfolding lexical_refusal
  lexical_first r fault = sym (ap lexical_refusal is ∙ ap (λ (o : Option Refused). option_or o (lexical_refusal more)) (sym fault))

  -- at no fault
  pub lexical_more : lexeme_refusal t ≡ None → lexical_refusal more ≡ lexical_refusal rest
  unfolding lexical_refusal
  lexical_more clear = sym (ap lexical_refusal is ∙ ap (λ (o : Option Refused). option_or o (lexical_refusal more)) clear)

  pub shape_more : (s : Shape) → shape_of (shape_after s t.class) more ≡ shape_of s rest
  shape_more s = sym (ap (shape_of s) is)

  pub deep_more : (s : Shape) (d : Option Place) → option_or (option_or d (then_some (is_deep (shape_after s t.class)) t.place)) (deep_place (shape_after s t.class) more) ≡ option_or d (deep_place s rest)
  unfolding deep_place
  deep_more s d = by d (is_deep (shape_after s t.class)) ∙ ap (λ (ts : List Lexeme). option_or d (deep_place s ts)) (sym is)
    where
      by : (o : Option Place) (b : Bool) → option_or (option_or o (then_some b t.place)) (deep_place (shape_after s t.class) more) ≡ option_or o (cond b (Some t.place) (deep_place (shape_after s t.class) more))
      by None true = refl
      by None false = refl
      by (Some p) b = refl

  -- the same, by what is known of the shape and the place after the token
  pub deep_after : (s s' : Shape) (d d' : Option Place) → s' ≡ shape_after s t.class → d' ≡ option_or d (then_some (is_deep (shape_after s t.class)) t.place) → option_or d' (deep_place s' more) ≡ option_or d (deep_place s rest)
  deep_after s s' d d' a b =
      ap (λ (o : Option Place). option_or o (deep_place s' more)) b
      ∙ ap (λ (x : Shape). option_or (option_or d (then_some (is_deep (shape_after s t.class)) t.place)) (deep_place x more)) a
      ∙ deep_more s d
