-- On an accepted sheet the calls come to what the plain play says, and the house holds.
use Rattle.std.proofs.Common.{◌≡◌, ℕ, zero, suc, ◌-◌, ◌<◌, Bool, true, false, cond, ◌&&◌, ltb, List, [], ◌∷◌, length, IfErr, Some, None, Ok, Option, Result, unwrap_or, sym, refl, ap, ◌∙◌, subst, inl, inr, arith}
use Rattle.std.specs.Option.{option_map}
use Rattle.std.specs.List.{AllByRecursion}
use Rattle.std.proofs.lemmas.Bool.{cases_Bool, cond-true, cond-false, lt-ltb, ltb-true, eqb-true}
use Rattle.game.specs.declared.side.Side.{Side}
use Rattle.game.specs.declared.side.Side.TheVariants.{Green}
use Rattle.game.specs.declared.sheet.Entry.{Entry}
use Rattle.game.specs.Sides.{number_of, same}
use Rattle.game.specs.Positions.{Position, position, degree, target, Leads}
use Rattle.game.specs.Laws.{Lawful}
use Rattle.game.specs.Winning.{place, Run, Follows, Good}
use Rattle.game.specs.Sheets.{entry_of, Coloured}
use Rattle.game.specs.Rules.{KeepsRules}
use Rattle.game.specs.Refusals.{Refused, refused}
use Rattle.game.specs.First.{unless}
use Rattle.game.specs.Checking.{checked}
use Rattle.game.proofs.Sides.{number_side, apart}
use Rattle.game.proofs.Firsts.{unless_none}
use Rattle.game.proofs.Kept.{accepted_keeps}
use Rattle.game.proofs.Sound.{keeps_for, stays, good}
use Rattle.plain.specs.declared.call.Call.{Call}
use Rattle.plain.specs.declared.call.Call.TheVariants.{Go, Reply}
use Rattle.plain.specs.declared.standing.Turn.TheVariants as turn
use Rattle.plain.specs.declared.standing.Standing.{Standing}
use Rattle.plain.specs.Plain.{most_steps, stands_at, steps_of, record_of, turn_at, standing, standing_of, comes, move_of, refusal_of, entering, after_call, answered, answer_of, answers_of, after_calls, HasLost, house_of, plain_first, plain_run}
use Rattle.plain.specs.Calls.{sheet_refused, set_out_of, fits_turn, call_refusal, step_to, call_of, next_of, answers_from, standing_after}
use Rattle.plain.specs.PlayPromise.{AnswersPlainly, HouseNeverLoses, PlaysAsPromised}
use Rattle.plain.proofs.Runs.{record_push, last_within, run_push, follows_push}
use Rattle.plain.proofs.Turns.{caller_of, comes_owned, turn_fits}

-- the sheet's choices
abbrev choices : List Entry → ℕ → ℕ
choices es u = (entry_of es u).choice

-- where nothing is refused the move is there
move_there : (ps : List Position) (es : List Entry) (run : List ℕ) (call : Call) → refusal_of ps es run call ≡ None → move_of es (stands_at run) call < degree ps (stands_at run)
move_there ps es run Go e = ltb-true _ _ (unless_none _ _ _ e).0
move_there ps es run (Reply k) e = ltb-true _ _ (unless_none _ _ _ (unless_none _ _ _ e).1).0

-- an answer that is not refused 33
abbrev Not33 : Result Standing Refused → Type 0
Not33 answer = IfErr answer (λ r. r.number ≡ 33 → ⊥)

-- a refusal other than 33
other_refusal : (b : Bool) (n : ℕ) (o : Option Refused) (next : Standing) → (n ≡ 33 → ⊥) → Not33 (answered o next) → Not33 (answered (unless b (refused n) o) next)
other_refusal true n o next ne rest = rest
other_refusal false n o next ne rest = ne

cond_same : {X : Type 0} (b : Bool) (x y z : X) → (b ≡ true → x ≡ y) → cond b x z ≡ cond b y z
cond_same true x y z h = h refl
cond_same false x y z h = refl

-- a turn that is over is over for want of moves
ended_if : (b s : Bool) → cond b turn.Ended (cond s turn.House turn.Guest) ≡ turn.Ended → b ≡ true
ended_if true s e = refl
ended_if false true e = grind arith
ended_if false false e = grind arith

-- a run that is good for the house does not end at its position
not_lost : (ps : List Position) (house : Side) (run : List ℕ) → 0 < length run → Good ps house run → HasLost ps house run house → ⊥
not_lost ps house run some g lost =
    let stuck = eqb-true (degree ps (stands_at run)) 0 (ended_if _ (same house (position ps (stands_at run)).owner) lost.ended) in
    let moves = g.moves (length run - 1) (omega arith) lost.owner in
    omega arith

-- a play of the house's from the start: a run that follows the sheet's choices
record Fair (ps : List Position) (es : List Entry) (house : Side) (start : ℕ) (run : List ℕ) : Type 0 where
  pub is_run : Run ps start run
  pub follows : Follows ps house (choices es) run

module _ (ps : List Position) (lawful : Lawful ps) (es : List Entry) (keeps : KeepsRules ps es) (house : Side) (start : ℕ) (s : Coloured es start house) where
  module _ (run : List ℕ) (fair : Fair ps es house start run) where
    -- where the play stands the sheet names the house
    last_coloured : Coloured es (stands_at run) house
    last_coloured = let n = fair.is_run.some in stays ps lawful es keeps house run start s fair.is_run fair.follows (length run - 1) (omega arith)

    within : stands_at run < length ps
    within = last_within ps start run fair.is_run

    module _ (call : Call) (due : comes (turn_at ps house (stands_at run)) call ≡ true) where
      owner : (position ps (stands_at run)).owner ≡ caller_of house call
      owner = comes_owned ps house (stands_at run) call due

      -- where the call leads
      abbrev next : ℕ
      next = target ps (stands_at run) (move_of es (stands_at run) call)

      fair_entering : (o : Option Refused) → refusal_of ps es run call ≡ o → Fair ps es house start (entering o run next)
      fair_entering (Some r) e = fair
      fair_entering None e =
          let there = move_there ps es run call e in
          let leads : Leads ps (stands_at run) (move_of es (stands_at run) call) next = record { there = there; to = refl } in
          record {
            is_run = run_push ps start run fair.is_run next (lawful.bounded.targets (stands_at run) _ next leads) _ leads;
            follows = follows_push ps start run fair.is_run next house (choices es) fair.follows (by_choice call owner leads);
          }
        where
          by_choice : (c : Call) → (position ps (stands_at run)).owner ≡ caller_of house c → Leads ps (stands_at run) (move_of es (stands_at run) c) next → (position ps (stands_at run)).owner ≡ house → Leads ps (stands_at run) (choices es (stands_at run)) next
          by_choice Go o l h = l
          by_choice (Reply k) o l h = absurd (apart house (sym h ∙ o))

      fair_call : Fair ps es house start (after_call ps es run call)
      fair_call = fair_entering (refusal_of ps es run call) refl

      same_refusal : call_refusal ps es (record_of ps house run) call ≡ refusal_of ps es run call
      same_refusal = by call (turn_fits ps es (caller_of house call) (stands_at run) keeps.size within owner)
        where
          by : (c : Call) → fits_turn ps es (caller_of house c) (stands_at run) ≡ true → call_refusal ps es (record_of ps house run) c ≡ refusal_of ps es run c
          by Go fits = ap (λ b. unless (b && ltb (choices es (stands_at run)) (degree ps (stands_at run))) (refused 33) (unless (ltb (steps_of run) most_steps) (refused 35) None)) fits
          by (Reply k) fits = ap (λ b. unless b (refused 33) (unless (ltb (steps_of run) most_steps) (refused 35) (unless (ltb k (degree ps (stands_at run))) (refused 34) None))) fits

      same_answer : call_of ps es (record_of ps house run) call ≡ answer_of ps es house run call
      same_answer = ap (λ o. answered o (standing ps (step_to ps (record_of ps house run) next))) same_refusal ∙ by (refusal_of ps es run call)
        where
          by : (o : Option Refused) → answered o (standing ps (step_to ps (record_of ps house run) next)) ≡ answered o (standing_of ps house (entering o run next))
          by None = ap (λ r. Ok (standing ps r)) (sym (record_push run fair.is_run.some next ps house))
          by (Some r) = refl

      same_next : next_of (standing_of ps house run) (call_of ps es (record_of ps house run) call) ≡ standing_of ps house (after_call ps es run call)
      same_next = ap (next_of (standing_of ps house run)) same_answer ∙ by (refusal_of ps es run call)
        where
          by : (o : Option Refused) → next_of (standing_of ps house run) (answered o (standing_of ps house (entering o run next))) ≡ standing_of ps house (entering o run next)
          by None = refl
          by (Some r) = refl

      not_33 : Not33 (answer_of ps es house run call)
      not_33 = by call owner (standing_of ps house (after_call ps es run call))
        where
          by : (c : Call) → (position ps (stands_at run)).owner ≡ caller_of house c → (after : Standing) → Not33 (answered (refusal_of ps es run c) after)
          by Go o after =
              let choice = lt-ltb _ _ ((keeps_for ps es keeps (stands_at run) within house last_coloured).choice.own o) in
              subst (λ (b : Bool). Not33 (answered (unless b (refused 33) (unless (ltb (steps_of run) most_steps) (refused 35) None)) after)) (sym choice)
              (other_refusal (ltb (steps_of run) most_steps) 35 None after (λ n. omega arith) tt)
          by (Reply k) o after =
              other_refusal (ltb (steps_of run) most_steps) 35 (unless (ltb k (degree ps (stands_at run))) (refused 34) None) after (λ n. omega arith)
              (other_refusal (ltb k (degree ps (stands_at run))) 34 None after (λ n. omega arith) tt)

  -- a list of calls, one by one
  same_answers : (calls : List Call) (run : List ℕ) → Fair ps es house start run → answers_from ps es (standing_of ps house run) calls ≡ answers_of ps es house run calls
  unfolding answers_from answers_of
  same_answers [] run fair = refl
  same_answers (call ∷ calls) run fair =
      cond_same (comes (turn_at ps house (stands_at run)) call) _ _ _ (λ due.
      let a = same_answer run fair call due in
      let b = ap (λ st. answers_from ps es st calls) (same_next run fair call due) ∙ same_answers calls (after_call ps es run call) (fair_call run fair call due) in
      cc)

  same_end : (calls : List Call) (run : List ℕ) → Fair ps es house start run → standing_after ps es (standing_of ps house run) calls ≡ standing_of ps house (after_calls ps es house run calls)
  unfolding standing_after after_calls
  same_end [] run fair = refl
  same_end (call ∷ calls) run fair = elim (cases_Bool (comes (turn_at ps house (stands_at run)) call)) [
    | inl due ↦
        let b = ap (λ st. standing_after ps es st calls) (same_next run fair call due) ∙ same_end calls (after_call ps es run call) (fair_call run fair call due) in
        cond-true _ _ _ due ∙ b ∙ ap (standing_of ps house) (sym (cond-true _ _ _ due))
    | inr not-due ↦ cond-false _ _ _ not-due ∙ ap (standing_of ps house) (sym (cond-false _ _ _ not-due))
  ]

  fair_end : (calls : List Call) (run : List ℕ) → Fair ps es house start run → Fair ps es house start (after_calls ps es house run calls)
  unfolding after_calls
  fair_end [] run fair = fair
  fair_end (call ∷ calls) run fair = elim (cases_Bool (comes (turn_at ps house (stands_at run)) call)) [
    | inl due ↦ subst (Fair ps es house start) (sym (cond-true _ _ _ due)) (fair_end calls (after_call ps es run call) (fair_call run fair call due))
    | inr not-due ↦ subst (Fair ps es house start) (sym (cond-false _ _ _ not-due)) fair
  ]

  never_33 : (calls : List Call) (run : List ℕ) → Fair ps es house start run → AllByRecursion Not33 (answers_of ps es house run calls)
  unfolding answers_of
  never_33 [] run fair = tt
  never_33 (call ∷ calls) run fair = elim (cases_Bool (comes (turn_at ps house (stands_at run)) call)) [
    | inl due ↦ subst (AllByRecursion _) (sym (cond-true _ _ _ due)) (not_33 run fair call due, never_33 calls (after_call ps es run call) (fair_call run fair call due))
    | inr not-due ↦ subst (AllByRecursion _) (sym (cond-false _ _ _ not-due)) tt
  ]

module _ (ps : List Position) (lawful : Lawful ps) (es : List Entry) (accepted : checked ps es ≡ None) (start : ℕ) (h : start < length ps) where
  keeps : KeepsRules ps es
  keeps = accepted_keeps ps es accepted

  -- the sheet has the house's colour at the start
  house_coloured : Coloured es start (house_of es start)
  house_coloured =
      let (c, k) = keeps.rules start h in
      k.coloured ∙ ap number_of (sym (ap (λ o. unwrap_or o Green) (number_side _ c k.coloured)))

  begun : Fair ps es (house_of es start) start (start ∷ [])
  begun = record {
    is_run = record { some = omega arith; first = refl; positions = λ i l. only i l; steps = λ i l. absurd (omega arith) };
    follows = λ i l. absurd (omega arith);
  }
    where
      only : (i : ℕ) → i < 1 → place (start ∷ []) i < length ps
      only zero l = h
      only (suc i) l = absurd (omega arith)

  set_out : set_out_of ps es start ≡ Ok (plain_first ps es start)
  set_out =
      ap (λ o. answered o (plain_first ps es start)) (cond-true _ _ _ (lt-ltb start (length ps) h) ∙ ap (option_map sheet_refused) accepted)

  module _ (calls : List Call) where
    plainly : AnswersPlainly ps es start calls
    plainly = record {
      first = set_out;
      answers = same_answers ps lawful es keeps (house_of es start) start house_coloured calls (start ∷ []) begun;
      at_end = ap (λ (st : Standing). st.log) (same_end ps lawful es keeps (house_of es start) start house_coloured calls (start ∷ []) begun);
    }

    fair : Fair ps es (house_of es start) start (plain_run ps es start calls)
    fair = fair_end ps lawful es keeps (house_of es start) start house_coloured calls (start ∷ []) begun

    is_good : Good ps (house_of es start) (plain_run ps es start calls)
    is_good = good ps lawful es keeps (house_of es start) (plain_run ps es start calls) start house_coloured fair.is_run fair.follows

    never_loses : HouseNeverLoses ps es start calls
    never_loses = record {
      never_33 = never_33 ps lawful es keeps (house_of es start) start house_coloured calls (start ∷ []) begun;
      run = fair.is_run;
      follows = fair.follows;
      good = is_good;
      not_lost = not_lost ps (house_of es start) (plain_run ps es start calls) fair.is_run.some is_good;
    }

pub plays : (ps : List Position) → Lawful ps → PlaysAsPromised ps
plays ps lawful es accepted start h calls = record { plainly = plainly ps lawful es accepted start h calls; house = never_loses ps lawful es accepted start h calls }
