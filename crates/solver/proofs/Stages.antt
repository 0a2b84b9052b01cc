-- How the sheet is filled in, entry by entry.
use Rattle.std.proofs.Common.{◌≡◌, ℕ, suc, ◌<◌, ◌≤◌, Bool, true, false, cond, not, ◌&&◌, ◌||◌, eqb, leb, ◌≢◌, ◌⊎◌, List, length, set, sym, refl, ap, ◌∙◌, subst, inl, inr, arith}
use Rattle.std.proofs.lemmas.List.{get_or-set_same, get_or-set_other, length-set}
use Rattle.std.proofs.lemmas.Bool.{cases_Bool, cases_eq, cases_lt, cond-true, cond-false, eq-eqb, ne_eqb, and_left, and_right, not_from_true}
use Rattle.game.specs.declared.side.Side.{Side}
use Rattle.game.specs.declared.sheet.Entry.{Entry}
use Rattle.game.specs.Sides.{number_of}
use Rattle.game.specs.Positions.{Position, position}
use Rattle.game.specs.Laws.{Lawful}
use Rattle.game.specs.Sheets.{blank_entry, entry_of}
use Rattle.rounds.specs.Rounds.{taker, forced, taken_by, taken, colour_of, rank_up_to, takes_at, adds}
use Rattle.rounds.proofs.Belows.{any_false}
use Rattle.rounds.proofs.Taking.{Agree, taken_none, taken_next, not_taking, taking}
use Rattle.rounds.proofs.Levels.{colour_is}
use Rattle.rounds.proofs.Ranks.{rank_none, rank_kept, rank_new, rank_later, rank_says}
use Rattle.solver.specs.Stages.{Marked, DoneFrom, Stage, Cleared, Readable, IsTakenIn, AllTaken}

-- an entry other than the one written stays
entry_other : (es : List Entry) (v w : ℕ) (x : Entry) → w ≢ v → entry_of (set es v x) w ≡ entry_of es w
entry_other es v w x ne = get_or-set_other es v w x blank_entry ne

module _ (ps : List Position) where
  marked_other : (n : ℕ) (es : List Entry) (v w : ℕ) (x : Entry) → w ≢ v → Marked ps n es w → Marked ps n (set es v x) w
  marked_other n es v w x ne m = let e = entry_other es v w x ne in record { colour = ap (λ (y : Entry). y.colour) e ∙ m.colour; rank = ap (λ (y : Entry). y.rank) e ∙ m.rank }

  -- an entry below the levels that are done
  done_other : (l i : ℕ) (es : List Entry) (x : Entry) → (position ps i).level < l → DoneFrom ps l es → DoneFrom ps l (set es i x)
  done_other l i es x h d = record {
    sized = length-set es i x ∙ d.sized;
    marked = λ w b up. let ne : w ≢ i = λ e. let s = ap (λ (y : ℕ). (position ps y).level) e in omega arith in marked_other (length ps) es i w x ne (d.marked w b up);
  }

  -- a mark as written
  marked_here : (n : ℕ) (es : List Entry) (v : ℕ) (x : Entry) → v < length es → x.colour ≡ number_of (cond (taken ps n v) (taker ps v) (position ps v).kind) → x.rank ≡ rank_up_to ps (colour_of ps) n v → Marked ps n (set es v x) v
  marked_here n es v x h c r = let e = get_or-set_same es v x blank_entry h in record { colour = ap (λ (y : Entry). y.colour) e ∙ c; rank = ap (λ (y : Entry). y.rank) e ∙ r }

  -- a round that does not take v leaves its mark
  marked_still : (n : ℕ) (es : List Entry) (v : ℕ) → taken ps (suc n) v ≡ taken ps n v → Marked ps n es v → Marked ps (suc n) es v
  marked_still n es v e m = record {
    colour = m.colour ∙ ap (λ b. number_of (cond b (taker ps v) (position ps v).kind)) (sym e);
    rank = m.rank ∙ elim (cases_Bool (taken ps n v)) [
      | inl t ↦ sym (rank_kept ps (colour_of ps) n v t)
      | inr t ↦ rank_none ps (colour_of ps) n v t ∙ sym (rank_none ps (colour_of ps) (suc n) v (e ∙ t))
    ];
  }

and_true : (b : Bool) → (b && true) ≡ b
and_true true = refl
and_true false = refl

module _ (ps : List Position) (lawful : Lawful ps) (l n i : ℕ) (es : List Entry) (stage : Stage ps l n i es) where
  pub stage_readable : Readable ps l n es
  stage_readable = record {
    sized = stage.above.sized;
    above = λ w h up. (stage.above.marked w h up).colour ∙ ap number_of (sym (colour_is ps lawful w h));
    level = λ w h e. elim (cases_lt w i) [
      | inl b ↦ rank_says ps (colour_of ps) (suc n) n w (omega arith) ∙ ap (λ (r : ℕ). leb 1 r && leb r n) (sym (stage.passed w b h e).rank)
      | inr b ↦ rank_says ps (colour_of ps) n n w (omega arith) ∙ ap (λ (r : ℕ). leb 1 r && leb r n) (sym (stage.rest w b h e).rank)
    ];
  }

  module _ (h : i < length ps) where
    -- whether the round takes position i: not in another level, nor where it has a rank, else where it is forced
    pub takes_other : ((position ps i).level ≡ l → ⊥) → false ≡ takes_at ps l n i
    takes_other e = sym (and_left _ _ (ne_eqb _ _ e))

    module _ (e : (position ps i).level ≡ l) where
      mark : Marked ps n es i
      mark = stage.rest i (omega arith) h e

      pub ranked_taken : ((entry_of es i).rank ≡ 0 → ⊥) → taken ps n i ≡ true
      ranked_taken r = elim (cases_Bool (taken ps n i)) [ inl t ↦ t | inr t ↦ absurd (r (mark.rank ∙ rank_none ps (colour_of ps) n i t)) ]

      pub takes_ranked : ((entry_of es i).rank ≡ 0 → ⊥) → false ≡ takes_at ps l n i
      takes_ranked r = sym (and_right (eqb (position ps i).level l) _ (and_right (taken ps (suc n) i) _ (not_from_true _ (ranked_taken r))))

      pub takes_forced : (b : Bool) → b ≡ forced ps (colour_of ps) (taken ps n) i → (entry_of es i).rank ≡ 0 → b ≡ takes_at ps l n i
      takes_forced b f r =
          let t = rank_says ps (colour_of ps) n n i (omega arith) ∙ ap (λ (x : ℕ). leb 1 x && leb x n) (sym mark.rank ∙ r) in
          let by = taken_next ps (colour_of ps) n i ∙ ap (λ x. x || forced ps (colour_of ps) (taken ps n) i) t in
          sym (ap (λ x. x && (taken ps (suc n) i && not (taken ps n i))) (eq-eqb _ _ e) ∙ ap (λ x. taken ps (suc n) i && not x) t ∙ ap (λ x. x && true) by ∙ ap (λ x. x && true) (sym f) ∙ and_true b)

    -- the round takes position i
    pub stage_taken : takes_at ps l n i ≡ true → Stage ps l n (suc i) (set es i (record { colour = number_of (taker ps i); choice = 0; rank = suc n }))
    stage_taken t =
        let size = stage.above.sized in
        let (at, by, before) = taking ps lawful (colour_of ps) l n i t in
        let x : Entry = record { colour = number_of (taker ps i); choice = 0; rank = suc n } in
        record {
          above = done_other ps (suc l) i es x (omega arith) stage.above;
          passed = λ w b c e. elim (cases_eq w i) [
            | inl s ↦ subst (λ (y : ℕ). Marked ps (suc n) (set es i x) y) (sym s) (marked_here ps (suc n) es i x (omega arith) (ap number_of (sym (cond-true _ _ _ by))) (sym (rank_new ps (colour_of ps) n i before by)))
            | inr s ↦ marked_other ps (suc n) es i w x s (stage.passed w (omega arith) c e)
          ];
          rest = λ w b c e. let ne : w ≢ i = λ s. omega arith in marked_other ps n es i w x ne (stage.rest w (omega arith) c e);
        }

    -- it does not
    pub stage_left : takes_at ps l n i ≡ false → Stage ps l n (suc i) es
    stage_left t = record {
      above = stage.above;
      passed = λ w b c e. elim (cases_eq w i) [
        | inl s ↦ subst (λ (y : ℕ). Marked ps (suc n) es y) (sym s) (marked_still ps n es i (not_taking ps lawful (colour_of ps) l n i (ap (λ (y : ℕ). (position ps y).level) (sym s) ∙ e) t) (stage.rest i (omega arith) h (ap (λ (y : ℕ). (position ps y).level) (sym s) ∙ e)))
        | inr s ↦ stage.passed w (omega arith) c e
      ];
      rest = λ w b c e. stage.rest w (omega arith) c e;
    }

-- where a position of the level is left by no round
module _ (ps : List Position) (l n : ℕ) where
  pub none_left : (i : ℕ) → AllTaken ps l n i → IsTakenIn ps l n i → AllTaken ps l n (suc i)
  none_left i before here v b = elim (cases_eq v i) [ inl s ↦ subst (λ (x : ℕ). IsTakenIn ps l n x) (sym s) here | inr s ↦ before v (omega arith) ]

  pub none_added : AllTaken ps l n (length ps) → adds ps l n ≡ false
  none_added all = any_false (takes_at ps l n) (length ps) (λ v b. elim (cases_eq (position ps v).level l) [
    | inl e ↦ and_right (eqb (position ps v).level l) _ (and_right (taken ps (suc n) v) _ (not_from_true _ (all v b e)))
    | inr e ↦ and_left _ _ (ne_eqb _ _ e)
  ])

-- two marks of the same side and rank
pub mark_same : (a b : Side) (m n : ℕ) → a ≡ b → m ≡ n → ◌≡◌ {A = Entry} (record { colour = number_of a; choice = 0; rank = m }) (record { colour = number_of b; choice = 0; rank = n })
mark_same a b m n e f = cc

module _ (ps : List Position) where
  -- nothing is taken yet
  unmarked : (es : List Entry) (v : ℕ) → v < length es → Marked ps 0 (set es v (record { colour = number_of (position ps v).kind; choice = 0; rank = 0 })) v
  unfolding rank_up_to
  unmarked es v h = marked_here ps 0 es v (record { colour = number_of (position ps v).kind; choice = 0; rank = 0 }) h (ap number_of (sym (cond-false _ _ _ (taken_none ps (colour_of ps) v)))) refl

  module _ (l i : ℕ) (es : List Entry) (c : Cleared ps l i es) where
    pub cleared_here : i < length ps → (position ps i).level ≡ l → Cleared ps l (suc i) (set es i (record { colour = number_of (position ps i).kind; choice = 0; rank = 0 }))
    cleared_here h at =
        let size = c.above.sized in
        let x : Entry = record { colour = number_of (position ps i).kind; choice = 0; rank = 0 } in
        record {
          above = done_other ps (suc l) i es x (omega arith) c.above;
          passed = λ w b d e. elim (cases_eq w i) [
            | inl s ↦ subst (λ (y : ℕ). Marked ps 0 (set es i x) y) (sym s) (unmarked es i (omega arith))
            | inr s ↦ marked_other ps 0 es i w x s (c.passed w (omega arith) d e)
          ];
        }

    pub cleared_other : ((position ps i).level ≡ l → ⊥) → Cleared ps l (suc i) es
    cleared_other ne = record {
      above = c.above;
      passed = λ w b d e. c.passed w (elim (cases_eq w i) [ inl s ↦ absurd (ne (ap (λ (y : ℕ). (position ps y).level) (sym s) ∙ e)) | inr s ↦ omega arith ]) d e;
    }

  -- a level is done once nothing is taken after round n
  pub level_done : (l n : ℕ) (es : List Entry) → n ≤ length ps → Agree ps l (taken_by ps (colour_of ps) (length ps)) (taken_by ps (colour_of ps) n) → Stage ps l n 0 es → DoneFrom ps l es
  level_done l n es h agree stage = record {
    sized = stage.above.sized;
    marked = λ v b up. elim (cases_eq (position ps v).level l) [
      | inl e ↦
          let m = stage.rest v (omega arith) b e in
          let t = agree.at v b e in
          record { colour = m.colour ∙ ap (λ x. number_of (cond x (taker ps v) (position ps v).kind)) (sym t); rank = m.rank ∙ sym (rank_later ps (colour_of ps) n (length ps) v h t) }
      | inr e ↦ stage.above.marked v b (omega arith)
    ];
  }
