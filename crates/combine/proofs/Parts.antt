-- A game that is part of another: its moves, its answers, and its colours on a sheet of the other.
use Rattle.std.proofs.Common.{◌≡◌, ℕ, ◌+◌, ◌<◌, ◌≤◌, List, length, get_or, take, drop, Some, None, Option, sym, refl, ap, ◌∙◌, arith}
use Rattle.std.specs.Option.{option_map}
use Rattle.std.specs.List.{slice_get}
use Rattle.std.proofs.lemmas.Option.{slice_get-map}
use Rattle.std.proofs.lemmas.List.{length-map, length-take, length-drop, get_or-map, get_or-take, get_or-drop}
use Rattle.game.specs.declared.side.Side.{Side}
use Rattle.game.specs.declared.sheet.Entry.{Entry}
use Rattle.game.specs.Positions.{Position, position, degree, target, Leads, owner_at, level_at, kind_at, degree_at, target_at}
use Rattle.game.specs.Laws.{Lawful}
use Rattle.game.specs.Sheets.{blank_entry, entry_of}
use Rattle.game.specs.Rules.{KeepsAt, KeepsRules}
use Rattle.game.proofs.Settled.{same_colours}
use Rattle.combine.specs.Join.{shifted}
use Rattle.combine.proofs.Targets.{target_in, target_read}

-- the positions of ps are those of js from d on
pub record Part (js ps : List Position) (d : ℕ) : Type 0 where
  pub within : d + length ps ≤ length js
  pub read : (v : ℕ) → v < length ps → position js (d + v) ≡ shifted d (position ps v)

module _ (js ps : List Position) (d : ℕ) (part : Part js ps d) where
  module _ (v : ℕ) (h : v < length ps) where
    pub part_owner : (position js (d + v)).owner ≡ (position ps v).owner
    part_owner = ap (λ (x : Position). x.owner) (part.read v h)

    pub part_kind : (position js (d + v)).kind ≡ (position ps v).kind
    part_kind = ap (λ (x : Position). x.kind) (part.read v h)

    pub part_level : (position js (d + v)).level ≡ 1 + (position ps v).level
    part_level = ap (λ (x : Position). x.level) (part.read v h)

    pub part_degree : degree js (d + v) ≡ degree ps v
    part_degree = ap (λ (x : Position). length x.moves) (part.read v h) ∙ length-map (position ps v).moves (λ t. d + t)

    part_target : (k : ℕ) → k < degree ps v → target js (d + v) k ≡ d + target ps v k
    part_target k l = ap (λ (x : Position). get_or x.moves k 0) (part.read v h) ∙ get_or-map (λ t. d + t) (position ps v).moves k 0 0 l

    -- a move of the part, in the whole
    leads_whole : (k w : ℕ) → Leads ps v k w → Leads js (d + v) k (d + w)
    leads_whole k w l = record {
      there = let e = part_degree in let b = l.there in omega arith;
      to = part_target k l.there ∙ ap (λ (t : ℕ). d + t) l.to;
    }

    -- a move of the whole, in the part
    pub leads_part : (k w : ℕ) → Leads js (d + v) k w → (x : ℕ) × Leads ps v k x × (d + x ≡ w)
    leads_part k w l =
        let e = part_degree in
        let there : k < degree ps v = omega (arith, l.there) in
        (target ps v k, record { there = there; to = refl }, sym (part_target k there) ∙ l.to)

  -- the part of a sheet
  module _ (lawful : Lawful ps) (gs : List Entry) (keeps : KeepsRules js gs) where
    sheet : List Entry
    sheet = take (length ps) (drop d gs)

    entry_read : (v : ℕ) → v < length ps → entry_of sheet v ≡ entry_of gs (d + v)
    unfolding sheet
    entry_read v h = get_or-take (length ps) (drop d gs) v blank_entry h ∙ get_or-drop d gs v blank_entry

    part_keeps_at : (v : ℕ) → v < length ps → (c : Side) → KeepsAt js gs (d + v) c → KeepsAt ps sheet v c
    part_keeps_at v h c at =
        let here = entry_read v h in
        let choice : (entry_of sheet v).choice ≡ (entry_of gs (d + v)).choice = ap (λ (e : Entry). e.choice) here in
        let rank : (entry_of sheet v).rank ≡ (entry_of gs (d + v)).rank = ap (λ (e : Entry). e.rank) here in
        let moves = part_degree v h in
        let owner = part_owner v h in
        let kind = part_kind v h in
        record {
          coloured = ap (λ (e : Entry). e.colour) here ∙ at.coloured;
          choice = record {
            own = λ o. let b = at.choice.own (owner ∙ o) in omega arith;
            other = λ o. choice ∙ at.choice.other (owner ∙ o);
          };
          moves = λ k w l n.
              let t = lawful.bounded.targets v k w l in
              ap (λ (e : Entry). e.colour) (entry_read w t) ∙ at.moves k (d + w) (leads_whole v h k w l) (λ o. n (sym owner ∙ o) ∙ choice);
          rank = record {
            same_kind = λ o. rank ∙ at.rank.same_kind (kind ∙ o);
            other_kind = λ o. let b = at.rank.other_kind (kind ∙ o) in omega arith;
          };
          falls = λ o k w l n e.
              let t = lawful.bounded.targets v k w l in
              let to = ap (λ (e : Entry). e.rank) (entry_read w t) in
              let a = part_level v h in
              let b = part_level w t in
              let f = at.falls (kind ∙ o) k (d + w) (leads_whole v h k w l) (λ o. n (sym owner ∙ o) ∙ choice) (omega arith) in
              omega arith;
        }

    part_keeps : KeepsRules ps sheet
    unfolding sheet
    part_keeps =
        let b = part.within in
        let s = keeps.size in
        record {
          size = simp (length-take, length-drop) (omega arith);
          rules = λ v h. let (c, k) = keeps.rules (d + v) (omega arith) in (c, part_keeps_at v h c k);
        }

    pub part_colours : (es : List Entry) → KeepsRules ps es → (v : ℕ) → v < length ps → (entry_of gs (d + v)).colour ≡ (entry_of es v).colour
    part_colours es own v h = sym (ap (λ (e : Entry). e.colour) (entry_read v h)) ∙ same_colours ps lawful sheet es part_keeps own v h

-- what a position answers after the shift
owner_shifted : (d : ℕ) (o : Option Position) → option_map (λ x. x.owner) (option_map (shifted d) o) ≡ option_map (λ x. x.owner) o
owner_shifted d None = refl
owner_shifted d (Some x) = refl

level_shifted : (d : ℕ) (o : Option Position) → option_map (λ x. x.level) (option_map (shifted d) o) ≡ option_map (λ l. 1 + l) (option_map (λ x. x.level) o)
level_shifted d None = refl
level_shifted d (Some x) = refl

kind_shifted : (d : ℕ) (o : Option Position) → option_map (λ x. x.kind) (option_map (shifted d) o) ≡ option_map (λ x. x.kind) o
kind_shifted d None = refl
kind_shifted d (Some x) = refl

degree_shifted : (d : ℕ) (o : Option Position) → option_map (λ x. length x.moves) (option_map (shifted d) o) ≡ option_map (λ x. length x.moves) o
degree_shifted d None = refl
degree_shifted d (Some x) = ap Some (length-map x.moves (λ t. d + t))

target_shifted : (d k : ℕ) (o : Option Position) → target_in (option_map (shifted d) o) k ≡ option_map (λ t. d + t) (target_in o k)
target_shifted d k None = refl
target_shifted d k (Some x) = slice_get-map (λ t. d + t) x.moves k

-- position u of js is position v of ps, shifted
module _ (js ps : List Position) (d u v : ℕ) (read : slice_get js u ≡ option_map (shifted d) (slice_get ps v)) where
  pub owner_answer : owner_at ps v ≡ owner_at js u
  owner_answer = sym (ap (option_map (λ x. x.owner)) read ∙ owner_shifted d (slice_get ps v))

  pub level_answer : option_map (λ l. 1 + l) (level_at ps v) ≡ level_at js u
  level_answer = sym (ap (option_map (λ x. x.level)) read ∙ level_shifted d (slice_get ps v))

  pub kind_answer : kind_at ps v ≡ kind_at js u
  kind_answer = sym (ap (option_map (λ x. x.kind)) read ∙ kind_shifted d (slice_get ps v))

  pub degree_answer : degree_at ps v ≡ degree_at js u
  degree_answer = sym (ap (option_map (λ x. length x.moves)) read ∙ degree_shifted d (slice_get ps v))

  pub target_answer : (k : ℕ) → option_map (λ t. d + t) (target_at ps v k) ≡ target_at js u k
  target_answer k =
      ap (option_map (λ t. d + t)) (target_read ps v k)
      ∙ sym (target_read js u k ∙ ap (λ (o : Option Position). target_in o k) read ∙ target_shifted d k (slice_get ps v))
