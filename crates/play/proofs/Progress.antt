-- How far a list of calls has come: what is left decides.
use Rattle.std.proofs.Common.{◌≡◌, ℕ, ◌+◌, ◌<◌, ◌≤◌, Bool, true, false, cond, List, [], ◌∷◌, ◌++◌, map, length, get_or, take, drop, set, Some, None, Result, sym, refl, ap, ◌∙◌, arith}
use Rattle.std.specs.Bool.{then_some}
use Rattle.std.proofs.lemmas.List.{append-nil, append_assoc, length-map, length-take-le, at_drop_more, at_drop_all, take_more_set, map_push, drop-set-lt, drop-drop}
use Rattle.std.proofs.lemmas.Option.{none-some, same_Some}
use Rattle.std.proofs.lemmas.Bool.{cond-true, cond-false}
use Rattle.game.specs.declared.sheet.Entry.{Entry}
use Rattle.game.specs.Positions.{Position}
use Rattle.plain.specs.declared.call.Call.{Call}
use Rattle.plain.specs.declared.call.Call.TheVariants.{Go}
use Rattle.plain.specs.declared.standing.Standing.{Standing}
use Rattle.plain.specs.Plain.{comes}
use Rattle.plain.specs.Calls.{call_of, next_of, answers_from, standing_after}
use Rattle.play.specs.declared.refusal.CallRefusal.{CallRefusal}
use Rattle.play.specs.Told.{answer_told}
use Rattle.play.specs.CallLists.{Written}

-- the first i calls are made, from s to o
pub record Progress (ps : List Position) (es : List Entry) (s : Standing) (calls : List Call) (before : List (Result Standing CallRefusal)) (i : ℕ) (o : Standing) (answers : List (Result Standing CallRefusal)) : Type 0 where
  pub answered : map answer_told (take i answers) ++ answers_from ps es o (drop i calls) ≡ answers_from ps es s calls
  pub beyond : drop i answers ≡ drop i before
  pub after : standing_after ps es o (drop i calls) ≡ standing_after ps es s calls

-- what comes of a call that the turn allows, and of one that it does not
allowed : (b : Bool) {X : Type 0} (x y : X) → Some x ≡ then_some b y → (b ≡ true) × (x ≡ y)
allowed true x y e = (refl, same_Some x y e)
allowed false x y e = absurd (none-some x (sym e))

barred : (b : Bool) {X : Type 0} (y : X) → None ≡ then_some b y → b ≡ false
barred true y e = absurd (none-some y e)
barred false y e = refl

module _ (ps : List Position) (es : List Entry) (s : Standing) (calls : List Call) (before : List (Result Standing CallRefusal)) where
  module _ (i : ℕ) (o : Standing) (answers : List (Result Standing CallRefusal)) (p : Progress ps es s calls before i o answers) (long : length answers ≡ length calls) where
    -- no more calls are made
    stop : i ≤ length calls → answers_from ps es o (drop i calls) ≡ [] → (i ≡ length (answers_from ps es s calls)) × Written (answers_from ps es s calls) before answers
    stop far none =
        let a : map answer_told (take i answers) ≡ answers_from ps es s calls = sym (append-nil _) ∙ ap (λ xs. map answer_told (take i answers) ++ xs) (sym none) ∙ p.answered in
        let b : i ≡ length (answers_from ps es s calls) = sym (length-map (take i answers) answer_told ∙ length-take-le i answers (omega arith)) ∙ ap length a in
        (b, record { answered = ap (λ n. map answer_told (take n answers)) (sym b) ∙ a; beyond = ap (λ n. drop n answers) (sym b) ∙ p.beyond ∙ ap (λ n. drop n before) b })

    -- the list of calls is over
    pub over : length calls ≤ i → i ≤ length calls → (i ≡ length (answers_from ps es s calls)) × Written (answers_from ps es s calls) before answers × (o ≡ standing_after ps es s calls)
    unfolding answers_from standing_after
    over all far = let q = stop far (at_drop_all (answers_from ps es o) calls i all) in (q.0, q.1, sym (at_drop_all (standing_after ps es o) calls i all) ∙ p.after)

    -- the next call
    abbrev call : Call
    call = get_or calls i Go

    module _ (l : i < length calls) (next : Standing) (n : next ≡ cond (comes o.turn call) (next_of o (call_of ps es o.log call)) o) where
      -- the turn does not allow it
      pub stopped : None ≡ then_some (comes o.turn call) (call_of ps es o.log call) → (i ≡ length (answers_from ps es s calls)) × Written (answers_from ps es s calls) before answers × (next ≡ standing_after ps es s calls)
      unfolding answers_from standing_after
      stopped e =
          let b = barred (comes o.turn call) (call_of ps es o.log call) e in
          let q = stop (omega arith) (at_drop_more (answers_from ps es o) calls i Go l ∙ cond-false _ _ _ b) in
          (q.0, q.1, n ∙ cond-false _ _ _ b ∙ sym (at_drop_more (standing_after ps es o) calls i Go l ∙ cond-false _ _ _ b) ∙ p.after)

      -- the turn allows it
      pub again : (x : Result Standing CallRefusal) → Some (answer_told x) ≡ then_some (comes o.turn call) (call_of ps es o.log call) → Progress ps es s calls before (i + 1) next (set answers i x)
      unfolding answers_from standing_after
      again x e =
          let (b, is) = allowed (comes o.turn call) (answer_told x) (call_of ps es o.log call) e in
          let to : next_of o (call_of ps es o.log call) ≡ next = sym (n ∙ cond-true _ _ _ b) in
          let front = ap (map answer_told) (take_more_set answers i x (omega arith)) ∙ map_push answer_told (take i answers) x in
          let rest : answers_from ps es o (drop i calls) ≡ answer_told x ∷ answers_from ps es next (drop (i + 1) calls) =
          at_drop_more (answers_from ps es o) calls i Go l ∙ cond-true _ _ _ b ∙ cc in
          record {
            answered = ap (λ xs. xs ++ answers_from ps es next (drop (i + 1) calls)) front ∙ append_assoc (map answer_told (take i answers)) (answer_told x ∷ []) _ ∙ ap (λ xs. map answer_told (take i answers) ++ xs) (sym rest) ∙ p.answered;
            beyond = drop-set-lt (i + 1) answers i x (omega arith) ∙ sym (drop-drop 1 i answers) ∙ ap (drop 1) p.beyond ∙ drop-drop 1 i before;
            after = ap (λ st. standing_after ps es st (drop (i + 1) calls)) (sym to) ∙ sym (at_drop_more (standing_after ps es o) calls i Go l ∙ cond-true _ _ _ b) ∙ p.after;
          }
