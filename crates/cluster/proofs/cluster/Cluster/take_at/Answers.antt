use Rattle.std.proofs.Common.{◌+◌, Some, refl, sym, ap, ◌∙◌}
use Rattle.std.proofs.lemmas.Result.{err_from_is_err_and}
use Rattle.record.specs.Steps.{Step}
use Rattle.register.specs.Causes.{take_cause}
use Rattle.register.specs.View.{took_at}
use Rattle.register.specs.declared.act.Act.TheVariants as act
use Rattle.cluster.proofs.NamedObjectPlaceLemmas.{object_is_at, index_within}
use Rattle.cluster.proofs.ObjectStepLemmas.{stepped_at, on_err, unchanged_at, last_before, cause_at, quiet_at}
use Rattle.cluster.proofs.ObjectStepLemmas.{read_at}
use Rattle.cluster.proofs.PreconditionLemmas.{may_at}
use Rattle.cluster.proofs.RunningSumLemmas.{part_mailed, refused_counted, summed_at}
use Rattle.cluster.proofs.StepEffectLemmas.{take_quiet}
use Rattle.cluster.proofs.StepLimitLemmas.{act_few}
use Rattle.cluster.proofs.cluster.Cluster.take_at.Goals as goal

pub index_mut-register-requires : goal.index_mut-register-requires
index_mut-register-requires c =
    index_within c.self.inside.objects.entries c.args.name.now c.args.object c.self.view_is c.requires

pub take-requires : goal.take-requires
take-requires c =
    let at = object_is_at _ _ _ c.self.view_is _ c.requires c.index_mut-register.ensures.value in
    record { after = last_before c.self.invariant.kept at }

pub invariant_of-self-2 : goal.invariant_of-self-2
invariant_of-self-2 c =
    let at = object_is_at _ _ _ c.self.view_is _ c.requires c.index_mut-register.ensures.value in
    let few =
    act_few (c.self.inside.counter + 1) c.index_mut-register.result.now.object (act.Take c.args.place) c.in_ok-took.ensures.cause in
    record {
      kept = quiet_at c.self.invariant.kept at (Step.Take c.args.place) c.in_ok-took.ensures.step few (take_quiet c.args.place);
      summed = summed_at c.self.invariant.summed at c.waiting-waited.ensures.sound (Step.Take c.args.place) (λ server. refl)
          (λ server. refl) c.in_ok-took.ensures.step
          c.waiting-waited.result c.waiting.result c.exchanged-self-inside.result c.waiting-waited.ensures.value c.waiting.ensures.value
          c.waiting.ensures.within c.exchanged-self-inside.ensures;
    }

pub invariant_of-self : goal.invariant_of-self
invariant_of-self c =
    let at = object_is_at _ _ _ c.self.view_is _ c.requires c.index_mut-register.ensures.value in
    refused_counted c.self.invariant at c.in_err-took.ensures.unchanged

pub exchanged-self-inside-requires : goal.exchanged-self-inside-requires
exchanged-self-inside-requires c =
    let at = object_is_at _ _ _ c.self.view_is _ c.requires c.index_mut-register.ensures.value in
    let room = part_mailed c.self.invariant at c.waiting-waited.result c.waiting.result c.waiting-waited.ensures.value
    c.waiting.ensures.within in
    record { part = room.0; within = room.1 }

pub returns : goal.returns
returns c =
    let at = object_is_at _ _ _ c.self.view_is _ c.requires c.index_mut-register.ensures.value in
    record {
      step = stepped_at c.self.view_is at (Step.Take c.args.place) c.in_ok-took.ensures.step;
      may = may_at c.self.view_is at (Step.Take c.args.place)
          (c.allowed_steps_may_be_made.ensures.acts (act.Take c.args.place) (c.self.inside.counter + 1) tt c.in_ok-took.ensures.cause);
      took = read_at c.self.view_is at (λ object. Some (took_at object c.args.place)) ∙ ap Some (sym c.in_ok-took.ensures.took);
      cause = cause_at c.self.view_is at (λ now object. take_cause now object c.args.place) ∙ c.in_ok-took.ensures.cause;
      unchanged = tt;
    }

pub returns-in_err-took-clause-cause : goal.returns-in_err-took-clause-cause
returns-in_err-took-clause-cause c =
    let at = object_is_at _ _ _ c.self.view_is _ c.requires c.index_mut-register.ensures.value in
    let p = err_from_is_err_and c.from_residual.result c.from_residual.ensures.1 in
    rw (p.1, p.2) (cause_at c.self.view_is at (λ now object. take_cause now object c.args.place) ∙ c.in_err-took.ensures.cause)

pub returns-in_err-took-clause-unchanged : goal.returns-in_err-took-clause-unchanged
returns-in_err-took-clause-unchanged c =
    let at = object_is_at _ _ _ c.self.view_is _ c.requires c.index_mut-register.ensures.value in
    on_err c.from_residual.result (unchanged_at at c.in_err-took.ensures.unchanged ∙ c.self.view_is)
