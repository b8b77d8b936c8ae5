use Rattle.std.proofs.Common.{false, Some, pred, refl, sym, ap, ◌∙◌}
use Rattle.driver.proofs.LimitRefusalLemmas.{err_of}
use Rattle.driver.proofs.StepRefusalLemmas.{advance_refused, turn_of}
use Rattle.driver.proofs.TurnLemmas.{same_want}
use Rattle.driver.proofs.WantLemmas.{advance_no_answer, replies_no_answer}
use Rattle.record.specs.Steps.{Step}
use Rattle.record.specs.declared.stage.Want.TheVariants as want
use Rattle.driver.proofs.round.make_step_at.Goals as goal

pub returns-in_err-advance_at-in-Advance-clause-refused : goal.returns-in_err-advance_at-in-Advance-clause-refused
returns-in_err-advance_at-in-Advance-clause-refused g c =
    err_of _ _ _ c.from_residual-in_err-advance_at-in-Advance.ensures.1
    (advance_refused g.C.Chooser.chooses c.args.name.now c.args.call c.args.cluster.now false c.args.chooser.now _
    (c.requires.wanted ∙ ap Some c.in-Advance.is) c.in_err-advance_at-in-Advance.ensures.cause)

pub handle_chosen-requires-clause-wanted : goal.handle_chosen-requires-clause-wanted
handle_chosen-requires-clause-wanted g c = c.requires.wanted ∙ ap Some c.in-Replies.is

pub returns-in_err-handle_chosen-in-Replies-clause-refused : goal.returns-in_err-handle_chosen-in-Replies-clause-refused
returns-in_err-handle_chosen-in-Replies-clause-refused g c =
    err_of _ _ _ c.from_residual.ensures.1 c.in_err-handle_chosen-in-Replies.ensures.refused

pub returns-in_ok-handle_chosen-in-Replies-clause-step : goal.returns-in_ok-handle_chosen-in-Replies-clause-step
returns-in_ok-handle_chosen-in-Replies-clause-step g c =
    (c.in_ok-handle_chosen-in-Replies.ensures.turn, replies_no_answer _ (c.requires.wanted ∙ ap Some c.in-Replies.is))

pub returns-in_ok-advance_at-in-Advance-clause-step : goal.returns-in_ok-advance_at-in-Advance-clause-step
returns-in_ok-advance_at-in-Advance-clause-step g c = (
  turn_of g.C.Chooser.chooses c.args.name.now c.args.call c.args.cluster.now false c.args.chooser.now want.Advance
      (Step.Advance (pred c.args.call)) c.advance_at.new.self
      (c.requires.wanted ∙ ap Some c.in-Advance.is) (λ object w. (refl, refl)) c.in_ok-advance_at-in-Advance.ensures.cause
      c.in_ok-advance_at-in-Advance.ensures.may c.in_ok-advance_at-in-Advance.ensures.step,
  advance_no_answer _ (c.requires.wanted ∙ ap Some c.in-Advance.is),
)

pub returns-in_default : goal.returns-in_default
returns-in_default g c = record {
  step = (
    refl,
    refl,
    λ e. c.in_default.not-Replies (same_want _ _ (sym c.requires.wanted ∙ e)),
    λ e. c.in_default.not-Advance (same_want _ _ (sym c.requires.wanted ∙ e)),
  );
  refused = tt;
  unchanged = tt;
}
