-- The exchanged game keeps the laws, and its accepted sheets have the opposite colours.
use Rattle.std.proofs.Common.{◌≡◌, ℕ, ◌-◌, ◌<◌, List, map, length, get_or, Some, None, Option, sym, refl, ap, ◌∙◌, subst, arith}
use Rattle.std.specs.Option.{option_map}
use Rattle.std.specs.List.{slice_get}
use Rattle.std.proofs.lemmas.Option.{slice_get-map}
use Rattle.std.proofs.lemmas.List.{length-map, get_or-map}
use Rattle.game.specs.declared.side.Side.{Side}
use Rattle.game.specs.declared.side.Side.TheVariants.{Green, Red}
use Rattle.game.specs.declared.sheet.Entry.{Entry}
use Rattle.game.specs.Sides.{opposite, number_of}
use Rattle.game.specs.Positions.{Position, blank, position, degree, Leads, owner_at, level_at, kind_at, degree_at, target_at}
use Rattle.game.specs.Laws.{Lawful}
use Rattle.game.specs.Sheets.{blank_entry, entry_of, Coloured}
use Rattle.game.specs.Rules.{KeepsAt, KeepsRules}
use Rattle.game.proofs.Answered.{leads_from}
use Rattle.game.proofs.Kept.{accepted_keeps}
use Rattle.game.proofs.Settled.{same_colours}
use Rattle.combine.specs.Exchange.{exchanged_position, exchanged, ColoursExchanged}
use Rattle.combine.proofs.Targets.{target_in, target_read}

opposite_twice : (c : Side) → opposite (opposite c) ≡ c
opposite_twice Green = refl
opposite_twice Red = refl

same_opposite : (c d : Side) → opposite c ≡ opposite d → c ≡ d
same_opposite c d e = sym (opposite_twice c) ∙ ap opposite e ∙ opposite_twice d

-- the entry with the other colour, and the sheet of these
abbrev exchanged_entry : Entry → Entry
exchanged_entry e = record { colour = 1 - e.colour; choice = e.choice; rank = e.rank }

abbrev exchanged_sheet : List Entry → List Entry
exchanged_sheet es = map exchanged_entry es

number_opposite : (c : Side) → 1 - number_of c ≡ number_of (opposite c)
number_opposite Green = refl
number_opposite Red = refl

module _ (ps : List Position) where
  pub exchanged_length : length (exchanged ps) ≡ length ps
  exchanged_length = length-map ps exchanged_position

  exchanged_read : (u : ℕ) → u < length ps → position (exchanged ps) u ≡ exchanged_position (position ps u)
  exchanged_read u h = get_or-map exchanged_position ps u blank blank h

  exchanged_leads : (u k w : ℕ) → Leads (exchanged ps) u k w → Leads ps u k w
  exchanged_leads u k w l =
      let n = exchanged_length in
      let b = leads_from (exchanged ps) u k w l in
      let r = exchanged_read u (omega arith) in
      record {
        there = subst (λ (x : Position). k < length x.moves) r l.there;
        to = ap (λ (x : Position). get_or x.moves k 0) (sym r) ∙ l.to;
      }

  level_read : (u : ℕ) → u < length ps → (position (exchanged ps) u).level ≡ (position ps u).level
  level_read u h = ap (λ (x : Position). x.level) (exchanged_read u h)

  kind_read : (u : ℕ) → u < length ps → (position (exchanged ps) u).kind ≡ opposite (position ps u).kind
  kind_read u h = ap (λ (x : Position). x.kind) (exchanged_read u h)

  owner_read : (u : ℕ) → u < length ps → (position (exchanged ps) u).owner ≡ opposite (position ps u).owner
  owner_read u h = ap (λ (x : Position). x.owner) (exchanged_read u h)

  degree_read : (u : ℕ) → u < length ps → degree (exchanged ps) u ≡ degree ps u
  degree_read u h = ap (λ (x : Position). length x.moves) (exchanged_read u h)

  module _ (lawful : Lawful ps) where
    pub exchanged_lawful : Lawful (exchanged ps)
    exchanged_lawful =
        let n = exchanged_length in
        record {
          bounded = record {
            some = omega (arith, lawful.bounded.some);
            few = omega (arith, lawful.bounded.few);
            levels = λ u h. let b : u < length ps = omega arith in let e = level_read u b in let l = lawful.bounded.levels u b in omega arith;
            degrees = λ u h. let b : u < length ps = omega arith in let e = degree_read u b in let l = lawful.bounded.degrees u b in omega arith;
            targets = λ u k w l. let b = lawful.bounded.targets u k w (exchanged_leads u k w l) in omega arith;
          };
          monotone = λ u k w l.
              let m = exchanged_leads u k w l in
              let a = level_read u (leads_from ps u k w m) in
              let b = level_read w (lawful.bounded.targets u k w m) in
              let r = lawful.monotone u k w m in
              omega arith;
          keeps_kind = λ u k w l e.
              let m = exchanged_leads u k w l in
              let f = leads_from ps u k w m in
              let t = lawful.bounded.targets u k w m in
              let same = lawful.keeps_kind u k w m (sym (level_read u f) ∙ e ∙ level_read w t) in
              kind_read u f ∙ ap opposite same ∙ sym (kind_read w t);
        }

    module _ (es : List Entry) (keeps : KeepsRules ps es) where
      entry_read : (v : ℕ) → v < length ps → entry_of (exchanged_sheet es) v ≡ exchanged_entry (entry_of es v)
      entry_read v h = let s = keeps.size in get_or-map exchanged_entry es v blank_entry blank_entry (omega arith)

      exchanged_coloured : (v : ℕ) → v < length ps → (c : Side) → Coloured es v c → Coloured (exchanged_sheet es) v (opposite c)
      exchanged_coloured v h c s = ap (λ (e : Entry). e.colour) (entry_read v h) ∙ ap (λ (n : ℕ). 1 - n) s ∙ number_opposite c

      exchanged_keeps_at : (v : ℕ) → v < length ps → (c : Side) → KeepsAt ps es v c → KeepsAt (exchanged ps) (exchanged_sheet es) v (opposite c)
      exchanged_keeps_at v h c at =
          let choice : (entry_of (exchanged_sheet es) v).choice ≡ (entry_of es v).choice = ap (λ (e : Entry). e.choice) (entry_read v h) in
          let rank : (entry_of (exchanged_sheet es) v).rank ≡ (entry_of es v).rank = ap (λ (e : Entry). e.rank) (entry_read v h) in
          let moves = degree_read v h in
          let level = level_read v h in
          let owns : (d : Side) → (position (exchanged ps) v).owner ≡ opposite d → (position ps v).owner ≡ d = λ d o. same_opposite _ d (sym (owner_read v h) ∙ o) in
          let kinds : (d : Side) → (position (exchanged ps) v).kind ≡ opposite d → (position ps v).kind ≡ d = λ d o. same_opposite _ d (sym (kind_read v h) ∙ o) in
          record {
            coloured = exchanged_coloured v h c at.coloured;
            choice = record {
              own = λ o. let b = at.choice.own (owns c o) in omega arith;
              other = λ o. choice ∙ at.choice.other (owns (opposite c) o);
            };
            moves = λ k w l n.
                let m = exchanged_leads v k w l in
                exchanged_coloured w (lawful.bounded.targets v k w m) c (at.moves k w m (λ o. n (owner_read v h ∙ ap opposite o) ∙ choice));
            rank = record {
              same_kind = λ o. rank ∙ at.rank.same_kind (kinds c o);
              other_kind = λ o. let b = at.rank.other_kind (kinds (opposite c) o) in omega arith;
            };
            falls = λ o k w l n e.
                let m = exchanged_leads v k w l in
                let t = lawful.bounded.targets v k w m in
                let to = ap (λ (e : Entry). e.rank) (entry_read w t) in
                let b = at.falls (kinds (opposite c) o) k w m (λ o. n (owner_read v h ∙ ap opposite o) ∙ choice) (sym (level_read w t) ∙ e ∙ level) in
                omega arith;
          }

      exchanged_keeps : KeepsRules (exchanged ps) (exchanged_sheet es)
      exchanged_keeps =
          let n = exchanged_length in
          let l = length-map es exchanged_entry in
          let s = keeps.size in
          record {
            size = omega arith;
            rules = λ v h. let b : v < length ps = omega arith in let (c, k) = keeps.rules v b in (opposite c, exchanged_keeps_at v b c k);
          }

    pub colours_exchanged : ColoursExchanged ps
    colours_exchanged es fs a b v h c s =
        let n = exchanged_length in
        let keeps = accepted_keeps ps es a in
        let same = same_colours (exchanged ps) exchanged_lawful (exchanged_sheet es) fs (exchanged_keeps es keeps) (accepted_keeps (exchanged ps) fs b) v (omega arith) in
        sym same ∙ exchanged_coloured es keeps v h c s

-- what the exchanged game answers, by what stands at the position
module _ (ps : List Position) (u : ℕ) where
  abbrev here : Option Position
  here = slice_get ps u

  abbrev there : slice_get (exchanged ps) u ≡ option_map exchanged_position here
  there = slice_get-map exchanged_position ps u

  owner_read_at : (o : Option Position) → option_map (λ x. x.owner) (option_map exchanged_position o) ≡ option_map opposite (option_map (λ x. x.owner) o)
  owner_read_at None = refl
  owner_read_at (Some x) = refl

  pub owner_exchanged : owner_at (exchanged ps) u ≡ option_map opposite (owner_at ps u)
  owner_exchanged = ap (option_map (λ x. x.owner)) there ∙ owner_read_at here

  level_read_at : (o : Option Position) → option_map (λ x. x.level) (option_map exchanged_position o) ≡ option_map (λ x. x.level) o
  level_read_at None = refl
  level_read_at (Some x) = refl

  pub level_exchanged : level_at (exchanged ps) u ≡ level_at ps u
  level_exchanged = ap (option_map (λ x. x.level)) there ∙ level_read_at here

  kind_read_at : (o : Option Position) → option_map (λ x. x.kind) (option_map exchanged_position o) ≡ option_map opposite (option_map (λ x. x.kind) o)
  kind_read_at None = refl
  kind_read_at (Some x) = refl

  pub kind_exchanged : kind_at (exchanged ps) u ≡ option_map opposite (kind_at ps u)
  kind_exchanged = ap (option_map (λ x. x.kind)) there ∙ kind_read_at here

  degree_read_at : (o : Option Position) → option_map (λ x. length x.moves) (option_map exchanged_position o) ≡ option_map (λ x. length x.moves) o
  degree_read_at None = refl
  degree_read_at (Some x) = refl

  pub degree_exchanged : degree_at (exchanged ps) u ≡ degree_at ps u
  degree_exchanged = ap (option_map (λ x. length x.moves)) there ∙ degree_read_at here

  target_read_at : (k : ℕ) (o : Option Position) → target_in (option_map exchanged_position o) k ≡ target_in o k
  target_read_at k None = refl
  target_read_at k (Some x) = refl

  pub target_exchanged : (k : ℕ) → target_at (exchanged ps) u k ≡ target_at ps u k
  target_exchanged k = target_read (exchanged ps) u k ∙ ap (λ (o : Option Position). target_in o k) there ∙ target_read_at k here ∙ sym (target_read ps u k)

pub ruleset exchanged_answers = (exchanged_length, owner_exchanged, level_exchanged, kind_exchanged, degree_exchanged, target_exchanged)
