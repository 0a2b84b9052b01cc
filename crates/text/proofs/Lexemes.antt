-- The first token of what is left of a line, and the others.
use Rattle.std.proofs.Common.{◌≡◌, ℕ, suc, ◌+◌, ◌<◌, ◌≤◌, true, false, eqb, List, [], ◌∷◌, length, get_or, take, drop, Some, None, sym, refl, ap, ◌∙◌, inl, inr, add-zero, add-one, one-add, arith}
use Rattle.std.specs.List.{prefix_len, slice_get}
use Rattle.std.proofs.lemmas.List.{get_or-drop, length-drop}
use Rattle.std.proofs.lemmas.List.Sums.{prefix_len-le-length, prefix_len_stops}
use Rattle.std.proofs.lemmas.Bool.{cases_Bool, cond-true, cond-false, and_from, and_left, and_right, both_ways}
use Rattle.text.specs.declared.class.Class.{Class}
use Rattle.text.specs.declared.class.Class.TheVariants.{Space}
use Rattle.text.specs.declared.place.Place.{Place}
use Rattle.text.specs.Classes.{class_of, order_of, of_class}
use Rattle.text.specs.Tokens.{Lexeme, lexeme_length, go_together, goes_on, widened, joined, lexemes}
use Rattle.text.proofs.Classes.{class_is, of_class_lem, no_space}

abbrev at_line : ℕ → ℕ → Place
at_line n at = record { line = n; offset = at }

joined_new : (b : ℕ) (p : Place) (bs : List ℕ) (ts : List Lexeme) → of_class Space b ≡ false → goes_on b bs ≡ false → joined b p bs ts ≡ record { class = class_of b; bytes = b ∷ []; place = p } ∷ ts
joined_new b p bs ts s g = cond-false _ _ _ s ∙ cond-false _ _ _ g

joined_wide : (b : ℕ) (p : Place) (bs : List ℕ) (ts : List Lexeme) → of_class Space b ≡ false → goes_on b bs ≡ true → joined b p bs ts ≡ widened b p ts
joined_wide b p bs ts s g = cond-false _ _ _ s ∙ cond-true _ _ _ g

spaceless : (k : Class) (b : ℕ) → (k ≡ Space → ⊥) → class_of b ≡ k → of_class Space b ≡ false
spaceless k b front e = ap (λ (c : Class). eqb (order_of c) (order_of Space)) e ∙ no_space k front

module _ (n : ℕ) (k : Class) (t : go_together k ≡ true) (front : k ≡ Space → ⊥) where
  -- b and the first m bytes after it are a token
  abbrev first_of : ℕ → List ℕ → ℕ → ℕ → List Lexeme
  first_of b bs at m = record { class = k; bytes = b ∷ take m bs; place = at_line n at } ∷ lexemes n (suc at + m) (drop m bs)

  -- digits or letters: a run of them is the first token
  run_lexeme : (bs : List ℕ) (b at : ℕ) → class_of b ≡ k → lexemes n at (b ∷ bs) ≡ first_of b bs at (prefix_len (of_class k) bs)
  unfolding lexemes
  run_lexeme [] b at e = joined_new b (at_line n at) [] [] (spaceless k b front e) refl ∙ cc
  run_lexeme (c ∷ cs) b at e = elim (cases_Bool (of_class k c)) [
    | inl same ↦
        let goes : goes_on b (c ∷ cs) ≡ true = and_from _ _ (ap go_together e ∙ t) (ap (λ (x : Class). of_class x c) e ∙ same) in
        let r = prefix_len (of_class k) cs in
        let count : prefix_len (of_class k) (c ∷ cs) ≡ suc r = cond-true _ _ _ same ∙ one-add r in
        let place : suc (suc at) + r ≡ suc at + suc r = omega arith in
        joined_wide b (at_line n at) (c ∷ cs) (lexemes n (suc at) (c ∷ cs)) (spaceless k b front e) goes
        ∙ ap (widened b (at_line n at)) (run_lexeme cs c (suc at) (class_is k c same))
        ∙ ap (λ (m : ℕ). record { class = k; bytes = b ∷ c ∷ take r cs; place = at_line n at } ∷ lexemes n m (drop r cs)) place
        ∙ ap (first_of b (c ∷ cs) at) (sym count)
    | inr other ↦
        let stops : goes_on b (c ∷ cs) ≡ false = and_right (go_together (class_of b)) _ (ap (λ (x : Class). of_class x c) e ∙ other) in
        let count : prefix_len (of_class k) (c ∷ cs) ≡ 0 = cond-false _ _ _ other in
        joined_new b (at_line n at) (c ∷ cs) (lexemes n (suc at) (c ∷ cs)) (spaceless k b front e) stops
        ∙ ap (λ (x : Class). record { class = x; bytes = b ∷ []; place = at_line n at } ∷ lexemes n (suc at) (c ∷ cs)) e
        ∙ ap (λ (m : ℕ). record { class = k; bytes = b ∷ []; place = at_line n at } ∷ lexemes n m (c ∷ cs)) (sym (add-zero (suc at)))
        ∙ ap (first_of b (c ∷ cs) at) (sym count)
  ]

  -- the first m bytes are a token
  abbrev front_of : List ℕ → ℕ → ℕ → List Lexeme
  front_of bs at m = record { class = k; bytes = take m bs; place = at_line n at } ∷ lexemes n (at + m) (drop m bs)

  front_lexeme : (bs : List ℕ) (b at : ℕ) → class_of b ≡ k → lexemes n at (b ∷ bs) ≡ front_of (b ∷ bs) at (prefix_len (of_class k) (b ∷ bs))
  front_lexeme bs b at e =
      let r = prefix_len (of_class k) bs in
      let count : prefix_len (of_class k) (b ∷ bs) ≡ suc r = cond-true _ _ _ (of_class_lem k b e) ∙ one-add r in
      let place : suc at + r ≡ at + suc r = omega arith in
      run_lexeme bs b at e
      ∙ ap (λ (m : ℕ). record { class = k; bytes = b ∷ take r bs; place = at_line n at } ∷ lexemes n m (drop r bs)) place
      ∙ ap (front_of (b ∷ bs) at) (sym count)

-- a space is no token
space_lexeme : (n b : ℕ) (bs : List ℕ) (at : ℕ) → of_class Space b ≡ true → lexemes n at (b ∷ bs) ≡ lexemes n (suc at) bs
unfolding lexemes
space_lexeme n b bs at e = cond-true _ _ _ e

-- so spaces are none
pub spaces_lexemes : (n : ℕ) (bs : List ℕ) (at : ℕ) → lexemes n at bs ≡ lexemes n (at + prefix_len (of_class Space) bs) (drop (prefix_len (of_class Space) bs) bs)
spaces_lexemes n [] at = ap (λ (m : ℕ). lexemes n m []) (sym (add-zero at))
spaces_lexemes n (b ∷ bs) at = elim (cases_Bool (of_class Space b)) [
  | inl same ↦
      let r = prefix_len (of_class Space) bs in
      let count : prefix_len (of_class Space) (b ∷ bs) ≡ suc r = cond-true _ _ _ same ∙ one-add r in
      let place : suc at + r ≡ at + suc r = omega arith in
      space_lexeme n b bs at same ∙ spaces_lexemes n bs (suc at) ∙ ap (λ (m : ℕ). lexemes n m (drop r bs)) place
      ∙ ap (λ (m : ℕ). lexemes n (at + m) (drop m (b ∷ bs))) (sym count)
  | inr other ↦
      let count : prefix_len (of_class Space) (b ∷ bs) ≡ 0 = cond-false _ _ _ other in
      ap (λ (m : ℕ). lexemes n m (b ∷ bs)) (sym (add-zero at)) ∙ ap (λ (m : ℕ). lexemes n (at + m) (drop m (b ∷ bs))) (sym count)
]

-- a byte that goes with none is a token by itself
single_lexeme : (n b : ℕ) (bs : List ℕ) (at : ℕ) → of_class Space b ≡ false → go_together (class_of b) ≡ false → lexemes n at (b ∷ bs) ≡ record { class = class_of b; bytes = b ∷ []; place = at_line n at } ∷ lexemes n (suc at) bs
unfolding lexemes
single_lexeme n b [] at s g = joined_new b (at_line n at) [] [] s refl
single_lexeme n b (c ∷ cs) at s g = joined_new b (at_line n at) (c ∷ cs) (lexemes n (suc at) (c ∷ cs)) s (and_left _ (of_class (class_of b) c) g)

-- the first token's bytes are some, and are there
pub some_bytes : (k : Class) (bs : List ℕ) → 0 < length bs → class_of (get_or bs 0 0) ≡ k → (0 < lexeme_length k bs) × (lexeme_length k bs ≤ length bs)
some_bytes k [] some e = absurd (omega arith)
some_bytes k (b ∷ bs) some e = elim (cases_Bool (go_together k)) [
  | inl goes ↦
      let count : lexeme_length k (b ∷ bs) ≡ prefix_len (of_class k) (b ∷ bs) = cond-true _ _ _ goes in
      let more : prefix_len (of_class k) (b ∷ bs) ≡ 1 + prefix_len (of_class k) bs = cond-true _ _ _ (of_class_lem k b e) in
      let within = prefix_len-le-length (of_class k) (b ∷ bs) in
      (omega arith, omega arith)
  | inr alone ↦ let count : lexeme_length k (b ∷ bs) ≡ 1 = cond-false _ _ _ alone in (omega arith, omega arith)
]

-- what begins with no space begins with a token
pub first_lexeme : (n at : ℕ) (bs : List ℕ) (k : Class) → 0 < length bs → class_of (get_or bs 0 0) ≡ k → (k ≡ Space → ⊥) → lexemes n at bs ≡ record { class = k; bytes = take (lexeme_length k bs) bs; place = at_line n at } ∷ lexemes n (at + lexeme_length k bs) (drop (lexeme_length k bs) bs)
first_lexeme n at [] k some e front = absurd (omega arith)
first_lexeme n at (b ∷ bs) k some e front = elim (cases_Bool (go_together k)) [
  | inl goes ↦
      let count : lexeme_length k (b ∷ bs) ≡ prefix_len (of_class k) (b ∷ bs) = cond-true _ _ _ goes in
      front_lexeme n k goes front bs b at e ∙ ap (front_of n k goes front (b ∷ bs) at) (sym count)
  | inr alone ↦
      let count : lexeme_length k (b ∷ bs) ≡ 1 = cond-false _ _ _ alone in
      single_lexeme n b bs at (spaceless k b front e) (ap go_together e ∙ alone)
      ∙ ap (λ (c : Class). record { class = c; bytes = b ∷ []; place = at_line n at } ∷ lexemes n (suc at) bs) e
      ∙ ap (λ (m : ℕ). record { class = k; bytes = b ∷ []; place = at_line n at } ∷ lexemes n m bs) (sym (add-one at))
      ∙ ap (λ (m : ℕ). record { class = k; bytes = take m (b ∷ bs); place = at_line n at } ∷ lexemes n (at + m) (drop m (b ∷ bs))) (sym count)
]

-- past its spaces a line does not go on with a space
pub no_more : (bs cs : List ℕ) (spaces : ℕ) → spaces ≡ prefix_len (of_class Space) bs → cs ≡ drop spaces bs → 0 < length cs → class_of (get_or cs 0 0) ≡ Space → ⊥
no_more bs cs spaces s is some e =
    let left = ap length is ∙ length-drop spaces bs in
    let at : get_or cs 0 0 ≡ get_or bs (prefix_len (of_class Space) bs) 0 = ap (λ (xs : List ℕ). get_or xs 0 0) is ∙ get_or-drop spaces bs 0 0 ∙ ap (λ (m : ℕ). get_or bs m 0) (add-zero spaces ∙ s) in
    let stops = prefix_len_stops (of_class Space) bs 0 (omega arith) in
    both_ways (of_class Space (get_or cs 0 0)) (ap (of_class Space) at ∙ stops) (of_class_lem Space (get_or cs 0 0) e)

-- what the first byte of a line tells
pub first_byte : (bs : List ℕ) (b : ℕ) → Some b ≡ slice_get bs 0 → (0 < length bs) × (get_or bs 0 0 ≡ b)
first_byte [] b e = absurd (cc)
first_byte (x ∷ xs) b e = (omega arith, cc)

pub no_byte : (n at : ℕ) (bs : List ℕ) → None ≡ slice_get bs 0 → lexemes n at bs ≡ []
unfolding lexemes
no_byte n at [] e = refl
no_byte n at (x ∷ xs) e = absurd (cc)
