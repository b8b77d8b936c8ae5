use Rattle.std.proofs.Common.{inl, refl, Some}
use Rattle.register.proofs.AnswerLemmas.{answer_refused, answer_cause_none, answer_past, answer_step, answer_kept, operation_again}
use Rattle.register.proofs.AnswerLemmas.{called_again, value_again, receipt_is}
use Rattle.register.proofs.FoundCallLemmas.{is_found, wanting, below_those, few_those}
use Rattle.register.proofs.RoomLemmas.{handed_on}
use Rattle.register.proofs.register.Register.answer.Goals as goal

pub want_of-requires : goal.want_of-requires
want_of-requires c =
    let f = is_found c.self.invariant c.in_ok-index.ensures.place c.deref.ensures.value c.index.ensures in
    record { below = below_those f c.deref-2.ensures.value; count = few_those c.self.invariant c.deref-2.ensures.value }

pub returns-in_default : goal.returns-in_default
returns-in_default c =
    let f = is_found c.self.invariant c.in_ok-index.ensures.place c.deref.ensures.value c.index.ensures in
    let w = wanting f c.want_of.ensures c.deref-2.ensures.value refl in
    record {
      step = tt;
      receipt = tt;
      cause = inl (rw (← c.self.view_is) (answer_refused w c.args.now c.in_default.not-Answer));
      unchanged = refl;
    }

pub returns-then-now-gt-MOST_STEPS-clause-cause : goal.returns-then-now-gt-MOST_STEPS-clause-cause
returns-then-now-gt-MOST_STEPS-clause-cause c =
    let f = is_found c.self.invariant c.in_ok-index.ensures.place c.deref.ensures.value c.index.ensures in
    let w = wanting f c.want_of.ensures c.deref-2.ensures.value c.in-Answer.is in
    inl (rw (← c.self.view_is) (answer_past w c.args.now c.if-now-gt-MOST_STEPS.true))

pub returns-in_err-value-clause-cause : goal.returns-in_err-value-clause-cause
returns-in_err-value-clause-cause c =
    let f = is_found c.self.invariant c.in_ok-index.ensures.place c.deref.ensures.value c.index.ensures in
    let w = wanting f c.want_of.ensures c.deref-2.ensures.value c.in-Answer.is in
    handed_on _ c.from_residual-in_err-value.result _
    (rw (← c.self.view_is) (answer_cause_none w c.args.now c.if-now-gt-MOST_STEPS.false))
    c.from_residual-in_err-value.ensures.1 c.in_err-value.ensures.refused

pub returns : goal.returns
returns c =
    let f = is_found c.self.invariant c.in_ok-index.ensures.place c.deref.ensures.value c.index.ensures in
    let w = wanting f c.want_of.ensures c.deref-2.ensures.value c.in-Answer.is in
    record {
      cause = rw (← c.self.view_is) (answer_cause_none w c.args.now c.if-now-gt-MOST_STEPS.false);
      step = rw (← c.self.view_is) (answer_step w c.args.now c.index_mut.ensures.value c.answer.ensures
          c.is_still_moving-self-inside.result);
      receipt = rw (← c.self.view_is)
          (receipt_is f c.args.object c.args.now (operation_again f c.index-3.ensures c.operation-operation.ensures)
          (called_again f c.index-4.ensures c.called-called.ensures)
          (value_again f c.args.now c.index-2.ensures (c.in_ok-value.ensures.value (Some c.args.now) refl)));
      unchanged = tt;
    }

pub invariant_of-self : goal.invariant_of-self
invariant_of-self c =
    let f = is_found c.self.invariant c.in_ok-index.ensures.place c.deref.ensures.value c.index.ensures in
    let w = wanting f c.want_of.ensures c.deref-2.ensures.value c.in-Answer.is in
    let e = c.is_still_moving-self-inside.ensures in
    answer_kept w c.args.now c.index_mut.ensures.value c.answer.ensures
    (operation_again f c.index-3.ensures c.operation-operation.ensures) e.ended e.same c.self.view_is c.requires.after
