-- What a list of calls comes to, from what set out answers.
use Rattle.std.proofs.Common.{◌≡◌, ℕ, true, false, eqb, List, length, Some, None, Ok, Err, Option, Result, sym, refl, ap, ◌∙◌, subst, arith}
use Rattle.std.specs.Option.{option_map}
use Rattle.std.proofs.lemmas.Option.{none-some}
use Rattle.std.proofs.lemmas.Bool.{cond-true, cond-false, ltb-true}
use Rattle.game.specs.declared.sheet.Entry.{Entry}
use Rattle.game.specs.Positions.{Position}
use Rattle.game.specs.Laws.{Lawful}
use Rattle.game.specs.Refusals.{Refused, refused}
use Rattle.game.specs.Checking.{checked}
use Rattle.game.proofs.Firsts.{unless_none}
use Rattle.plain.specs.declared.call.Call.{Call}
use Rattle.plain.specs.declared.standing.Record.{Record}
use Rattle.plain.specs.declared.standing.Standing.{Standing}
use Rattle.plain.specs.Plain.{answered, plain_first, plain_answers, plain_record}
use Rattle.plain.specs.Calls.{sheet_refused, set_out_refusal, set_out_of, answers_from, standing_after}
use Rattle.plain.specs.PlayPromise.{AnswersPlainly}
use Rattle.plain.proofs.Plays.{plays}
use Rattle.play.specs.declared.refusal.CallRefusal.{CallRefusal}
use Rattle.play.specs.declared.calls.CallsPlayed.{CallsPlayed}
use Rattle.play.specs.CallLists.{calls_refusal, played_by, Written}

-- an outcome, or a refusal
outcome_from : (o : Option Refused) (x y : Standing) → Ok x ≡ answered o y → (o ≡ None) × (x ≡ y)
outcome_from None x y e = (refl, grind arith)
outcome_from (Some r) x y e = absurd (grind arith)

refusal_from : (o : Option Refused) (r : Refused) (y : Standing) → Err r ≡ answered o y → Some r ≡ o
refusal_from None r y e = grind arith
refusal_from (Some q) r y e = grind arith

unmapped : {X Y : Type 0} (f : X → Y) (o : Option X) → option_map f o ≡ None → o ≡ None
unmapped f None e = refl
unmapped f (Some x) e = absurd (none-some _ (sym e))

module _ (ps : List Position) (es : List Entry) (start : ℕ) (calls : List Call) (places : ℕ) where
  pub misfit : false ≡ eqb places (length calls) → Some (refused 0) ≡ calls_refusal ps es start calls places
  misfit other = sym (cond-false _ _ _ (sym other))

  module _ (fits : true ≡ eqb places (length calls)) where
    to_set_out : set_out_refusal ps es start ≡ calls_refusal ps es start calls places
    to_set_out = sym (cond-true _ _ _ (sym fits))

    pub not_set_out : (r : Refused) → Err r ≡ set_out_of ps es start → Some r ≡ calls_refusal ps es start calls places
    not_set_out r e = refusal_from _ r _ e ∙ to_set_out

    module _ (x : Standing) (e : Ok x ≡ set_out_of ps es start) where
      pub is_set_out : None ≡ calls_refusal ps es start calls places
      is_set_out = sym (outcome_from _ x _ e).0 ∙ to_set_out

      first_is : x ≡ plain_first ps es start
      first_is = (outcome_from _ x _ e).1

      module _ (lawful : Lawful ps) where
        plainly : AnswersPlainly ps es start calls
        plainly =
            let (within, later) = unless_none _ _ _ (outcome_from _ x _ e).0 in
            (plays ps lawful es (unmapped sheet_refused (checked ps es) later) start (ltb-true _ _ within) calls).plainly

        answers_are : answers_from ps es x calls ≡ plain_answers ps es start calls
        answers_are = ap (λ s. answers_from ps es s calls) first_is ∙ plainly.answers

        pub written : (before after : List (Result Standing CallRefusal)) → Written (answers_from ps es x calls) before after → Written (plain_answers ps es start calls) before after
        written before after w = subst (λ answers. Written answers before after) answers_are w

        pub played : (first o : Standing) (made : ℕ) (last : Record) → first ≡ x → made ≡ length (answers_from ps es x calls) → o ≡ standing_after ps es x calls → last ≡ o.log → ◌≡◌ {A = CallsPlayed} (record { first = first; made = made; at_end = last }) (played_by ps es start calls)
        played first o made last a b c d =
            let f : first ≡ plain_first ps es start = a ∙ first_is in
            let m : made ≡ length (plain_answers ps es start calls) = b ∙ ap length answers_are in
            let l : last ≡ plain_record ps es start calls = d ∙ ap (λ (s : Standing). s.log) (c ∙ ap (λ s. standing_after ps es s calls) first_is) ∙ plainly.at_end in
            cc
