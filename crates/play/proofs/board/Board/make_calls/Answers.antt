use Rattle.std.proofs.Common.{◌≡◌, length, sym, ap, ◌∙◌, arith}
use Rattle.std.specs.Option.{option_map}
use Rattle.play.specs.Told.{answer_told}
use Rattle.play.proofs.Progress.{over, stopped, again}
use Rattle.play.proofs.board.Board.make_calls.Goals as goal

pub loop-i-preserved : goal.loop-i-preserved
loop-i-preserved g c = again _ _ _ _ _ _ _ _ c.loop-i.invariant (omega arith) c.loop-i-test.true _ c.make_call-made.ensures.next _ (ap (option_map answer_told) (sym c.in-Some.is) ∙ c.make_call-made.ensures.answer)

pub returns-in-None : goal.returns-in-None
returns-in-None g c =
    let q = stopped _ _ _ _ _ _ _ _ c.loop-i.invariant (omega arith) c.loop-i-test.true _ c.make_call-made.ensures.next (ap (option_map answer_told) (sym c.in-None.is) ∙ c.make_call-made.ensures.answer) in
    record { made = q.0; answers = q.1; outcome = q.2 }

pub returns : goal.returns
returns g c =
    let q = over _ _ _ _ _ _ _ _ c.loop-i.invariant (omega arith) (omega arith) (omega arith) in
    let end : length c.args.calls.now ≡ c.loop-i.i = omega arith in
    record { made = end ∙ q.0; answers = q.1; outcome = q.2 }
