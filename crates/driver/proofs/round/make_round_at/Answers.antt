use Rattle.std.proofs.Common.{Some, pred, refl, ap, ◌∙◌}
use Rattle.driver.proofs.HandedValueLemmas.{value_round, refused_round}
use Rattle.driver.proofs.LimitRefusalLemmas.{err_of}
use Rattle.driver.proofs.StepRefusalLemmas.{advance_refused, answer_refused, value_refused, settle_refused}
use Rattle.driver.proofs.StepRefusalLemmas.{due_of, turn_of}
use Rattle.driver.proofs.WantLemmas.{advance_no_answer}
use Rattle.record.specs.Steps.{Step}
use Rattle.record.specs.declared.stage.Want.TheVariants as want
use Rattle.driver.proofs.round.make_round_at.Goals as goal

pub returns-in_err-advance_at-in-Advance-clause-refused : goal.returns-in_err-advance_at-in-Advance-clause-refused
returns-in_err-advance_at-in-Advance-clause-refused g c =
    err_of _ _ _ c.from_residual.ensures.1
    (advance_refused g.C.Chooser.chooses c.args.name.now c.args.call c.args.cluster.now c.args.asks_again c.args.chooser.now _
    (c.requires.wanted ∙ ap Some c.in-Advance.is) c.in_err-advance_at-in-Advance.ensures.cause)

pub returns-in-Supply-clause-refused : goal.returns-in-Supply-clause-refused
returns-in-Supply-clause-refused g c =
    refused_round g.C.Chooser.chooses c.args.name.now c.args.call c.args.asks_again c.args.cluster.now c.args.chooser.now _
    c.hand_out_value.result
    (λ e by. value_refused g.C.Chooser.chooses c.args.name.now c.args.call c.args.cluster.now c.args.asks_again c.args.chooser.now
    c.in-Supply.k c.in-Supply.n e (c.requires.wanted ∙ ap Some c.in-Supply.is) by) c.hand_out_value.ensures.cause

pub returns-in_err-pieces-in-Settle-clause-refused : goal.returns-in_err-pieces-in-Settle-clause-refused
returns-in_err-pieces-in-Settle-clause-refused g c =
    err_of _ _ _ c.from_residual-in_err-pieces-in-Settle.ensures.1
    (settle_refused g.C.Chooser.chooses c.args.name.now c.args.call c.args.cluster.now c.args.asks_again c.args.chooser.now c.in-Settle.k
    c.in-Settle.len _
    (c.requires.wanted ∙ ap Some c.in-Settle.is) c.in_err-pieces-in-Settle.ensures.given c.in_err-pieces-in-Settle.ensures.cause)

pub returns-in_err-answer_at-in-Answer-clause-refused : goal.returns-in_err-answer_at-in-Answer-clause-refused
returns-in_err-answer_at-in-Answer-clause-refused g c =
    err_of _ _ _ c.from_residual-in_err-answer_at-in-Answer.ensures.1
    (answer_refused g.C.Chooser.chooses c.args.name.now c.args.call c.args.cluster.now c.args.asks_again c.args.chooser.now _
    (c.requires.wanted ∙ ap Some c.in-Answer.is) c.in_err-answer_at-in-Answer.ensures.cause)

pub returns-in_ok-advance_at-in-Advance-clause-round : goal.returns-in_ok-advance_at-in-Advance-clause-round
returns-in_ok-advance_at-in-Advance-clause-round g c = (
  turn_of g.C.Chooser.chooses c.args.name.now c.args.call c.args.cluster.now c.args.asks_again c.args.chooser.now
      want.Advance (Step.Advance (pred c.args.call)) c.advance_at.new.self
      (c.requires.wanted ∙ ap Some c.in-Advance.is) (λ object w. (refl, refl))
      c.in_ok-advance_at-in-Advance.ensures.cause c.in_ok-advance_at-in-Advance.ensures.may c.in_ok-advance_at-in-Advance.ensures.step,
  advance_no_answer _ (c.requires.wanted ∙ ap Some c.in-Advance.is),
)

pub returns-in-Supply-clause-round : goal.returns-in-Supply-clause-round
returns-in-Supply-clause-round g c =
    value_round g.C.Chooser.chooses c.args.name.now c.args.call c.args.asks_again c.args.cluster.now c.args.chooser.now
    c.args.cluster.now refl
    (due_of g.C.Chooser.chooses c.args.name.now c.args.call c.args.cluster.now c.args.asks_again c.args.chooser.now
    (want.Supply c.in-Supply.k c.in-Supply.n) (Step.Supply (pred c.args.call))
    (c.requires.wanted ∙ ap Some c.in-Supply.is) (λ object w. (refl, refl))) c.hand_out_value.result c.hand_out_value.ensures.value

pub pieces_to_decode-requires-clause-wanted : goal.pieces_to_decode-requires-clause-wanted
pieces_to_decode-requires-clause-wanted g c = c.requires.wanted ∙ ap Some c.in-Settle.is

pub returns-in_ok-pieces-in-Settle-clause-round : goal.returns-in_ok-pieces-in-Settle-clause-round
returns-in_ok-pieces-in-Settle-clause-round g c = (refl, refl, c.in_ok-pieces-in-Settle.ensures.pieces)

pub returns-in_ok-pieces-in-Settle-clause-refused : goal.returns-in_ok-pieces-in-Settle-clause-refused
returns-in_ok-pieces-in-Settle-clause-refused g c = tt

pub returns-in_ok-answer_at-in-Answer-clause-round : goal.returns-in_ok-answer_at-in-Answer-clause-round
returns-in_ok-answer_at-in-Answer-clause-round g c = record {
  wants = c.requires.wanted ∙ ap Some c.in-Answer.is;
  turn = turn_of g.C.Chooser.chooses c.args.name.now c.args.call c.args.cluster.now c.args.asks_again c.args.chooser.now
      want.Answer (Step.AnswerCall (pred c.args.call)) c.answer_at.new.self
      (c.requires.wanted ∙ ap Some c.in-Answer.is) (λ object w. (refl, refl))
      c.in_ok-answer_at-in-Answer.ensures.cause c.in_ok-answer_at-in-Answer.ensures.may c.in_ok-answer_at-in-Answer.ensures.step;
  handed = c.in_ok-answer_at-in-Answer.ensures.receipt;
}

pub returns-in-Done-clause-refused : goal.returns-in-Done-clause-refused
returns-in-Done-clause-refused g c = (refl, c.requires.wanted ∙ ap Some c.in-Done.is)

pub await_replies-requires-clause-wanted : goal.await_replies-requires-clause-wanted
await_replies-requires-clause-wanted g c = c.requires.wanted ∙ ap Some c.in-Replies.is

pub restart-requires-clause-wanted : goal.restart-requires-clause-wanted
restart-requires-clause-wanted g c = c.requires.wanted ∙ ap Some c.in-Again.is
