use Rattle.std.proofs.Common.{◌≡◌, pred, ◌+◌, Option, sym, subst, ap, ◌∙◌, refl}
use Rattle.std.proofs.lemmas.Result.{err_from_is_err_and}
use Rattle.tag.specs.Cause.{IsRefusalBy}
use Rattle.tag.specs.declared.refusal.Refusal.{Refusal}
use Rattle.record.specs.Steps.{Step}
use Rattle.register.specs.Causes.{answer_cause}
use Rattle.register.specs.View.{receipt_at}
use Rattle.register.specs.declared.act.Act.TheVariants as act
use Rattle.cluster.specs.Causes.{next}
use Rattle.cluster.specs.Cluster.{place_of}
use Rattle.cluster.proofs.NamedObjectPlaceLemmas.{object_is_at, index_within}
use Rattle.cluster.proofs.ObjectStepLemmas.{stepped_at, unchanged_at, last_before, cause_at, next_is, quiet_at, read_at}
use Rattle.cluster.proofs.PreconditionLemmas.{may_at}
use Rattle.cluster.proofs.RunningSumLemmas.{part_mailed, refused_counted, summed_at}
use Rattle.cluster.proofs.StepEffectLemmas.{answer_quiet}
use Rattle.cluster.proofs.StepLimitLemmas.{act_few}
use Rattle.cluster.proofs.cluster.Cluster.answer_at.Goals as goal

pub index_mut-register-requires : goal.index_mut-register-requires
index_mut-register-requires c =
    index_within c.self.inside.objects.entries c.args.name.now c.args.object c.self.view_is c.requires

pub answer-requires : goal.answer-requires
answer-requires c =
    let at = object_is_at _ _ _ c.self.view_is _ c.requires c.index_mut-register.ensures.value in
    record { after = last_before c.self.invariant.kept at }

pub invariant_of-self-2 : goal.invariant_of-self-2
invariant_of-self-2 c =
    let at = object_is_at _ _ _ c.self.view_is _ c.requires c.index_mut-register.ensures.value in
    let few = act_few (c.self.inside.counter + 1) c.index_mut-register.result.now.object (act.Answer c.args.call)
    c.in_ok-receipt.ensures.cause in
    record {
      kept = quiet_at c.self.invariant.kept at (Step.AnswerCall (pred c.args.call)) c.in_ok-receipt.ensures.step few
          (answer_quiet (pred c.args.call));
      summed = summed_at c.self.invariant.summed at c.waiting-waited.ensures.sound (Step.AnswerCall (pred c.args.call))
          (λ server. refl) (λ server. refl) c.in_ok-receipt.ensures.step
          c.waiting-waited.result c.waiting.result c.exchanged-self-inside.result c.waiting-waited.ensures.value c.waiting.ensures.value
          c.waiting.ensures.within c.exchanged-self-inside.ensures;
    }

pub invariant_of-self : goal.invariant_of-self
invariant_of-self c =
    let at = object_is_at _ _ _ c.self.view_is _ c.requires c.index_mut-register.ensures.value in
    refused_counted c.self.invariant at c.in_err-receipt.ensures.unchanged

pub returns : goal.returns
returns c =
    let at = object_is_at _ _ _ c.self.view_is _ c.requires c.index_mut-register.ensures.value in
    let now = c.args.self.now in
    let name = c.args.name.now in
    let old = c.index_mut-register.result.now.object in
    let here : place_of now.objects name ≡ c.args.object = c.requires.0 in
    record {
      step = stepped_at c.self.view_is at (Step.AnswerCall (pred c.args.call)) c.in_ok-receipt.ensures.step;
      may = may_at c.self.view_is at (Step.AnswerCall (pred c.args.call))
          (c.allowed_steps_may_be_made.ensures.acts (act.Answer c.args.call) (c.self.inside.counter + 1) tt
          c.in_ok-receipt.ensures.cause);
      receipt = read_at c.self.view_is at (λ object. receipt_at object (place_of now.objects name) c.args.call (next now))
          ∙ ap (λ p. receipt_at old p c.args.call (next now)) here
          ∙ ap (λ n. receipt_at old c.args.object c.args.call n) (next_is c.self.view_is)
          ∙ c.in_ok-receipt.ensures.receipt;
      cause = cause_at c.self.view_is at (λ now object. answer_cause now object c.args.call) ∙ c.in_ok-receipt.ensures.cause;
      unchanged = tt;
    }

pub returns-in_err-receipt-clause-cause : goal.returns-in_err-receipt-clause-cause
returns-in_err-receipt-clause-cause c =
    let at = object_is_at _ _ _ c.self.view_is _ c.requires c.index_mut-register.ensures.value in
    let p = err_from_is_err_and c.from_residual.result c.from_residual.ensures.1 in
    rw (p.1, p.2) (subst (λ (o : Option Refusal). IsRefusalBy o c.in_err-receipt.field-0.0)
    (sym (cause_at c.self.view_is at (λ now object. answer_cause now object c.args.call))) c.in_err-receipt.ensures.cause)

pub returns-in_err-receipt-clause-unchanged : goal.returns-in_err-receipt-clause-unchanged
returns-in_err-receipt-clause-unchanged c =
    let at = object_is_at _ _ _ c.self.view_is _ c.requires c.index_mut-register.ensures.value in
    let p = err_from_is_err_and c.from_residual.result c.from_residual.ensures.1 in
    rw p.1 (unchanged_at at c.in_err-receipt.ensures.unchanged ∙ c.self.view_is)

pub exchanged-self-inside-requires : goal.exchanged-self-inside-requires
exchanged-self-inside-requires c =
    let at = object_is_at _ _ _ c.self.view_is _ c.requires c.index_mut-register.ensures.value in
    let room = part_mailed c.self.invariant at c.waiting-waited.result c.waiting.result c.waiting-waited.ensures.value
    c.waiting.ensures.within in
    record { part = room.0; within = room.1 }
