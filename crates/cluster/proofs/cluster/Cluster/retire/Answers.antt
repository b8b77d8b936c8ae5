use Rattle.std.proofs.Common.{◌+◌, ◌≤◌, refl, sym, ◌∙◌, arith}
use Rattle.tag.specs.declared.limits.TheConstants.{MOST_STEPS}
use Rattle.record.specs.Steps.{Step}
use Rattle.register.specs.Retiring.{retire_cause}
use Rattle.cluster.proofs.LookupLemmas.{at_place}
use Rattle.cluster.proofs.ObjectStepLemmas.{stepped_at, on_err, unchanged_at, last_before, cause_at, no_object, exactly_refused}
use Rattle.cluster.proofs.PreconditionLemmas.{may_at}
use Rattle.cluster.proofs.RetiredSumLemmas.{past_retired, part_loaded, load_within, part_freed, retire_counted, freed_exactly}
use Rattle.cluster.proofs.RunningSumLemmas.{refused_counted}
use Rattle.cluster.proofs.cluster.Cluster.retire.Goals as goal

pub returns-in_default-clause-cause : goal.returns-in_default-clause-cause
returns-in_default-clause-cause c =
    no_object c.self.inside.objects.entries c.args.name.now c.self.view_is c.in_default.ensures.found _

pub may_retire-requires : goal.may_retire-requires
may_retire-requires c =
    let at = at_place c.self.inside.objects.entries c.args.name.now c.in-Some.place c.index_mut-register.result.now c.in-Some.ensures.index
    c.index_mut-register.ensures.value in
    record { after = last_before c.self.invariant.kept at }

pub invariant_of-self : goal.invariant_of-self
invariant_of-self c =
    let at = at_place c.self.inside.objects.entries c.args.name.now c.in-Some.place c.index_mut-register.result.now c.in-Some.ensures.index
    c.index_mut-register.ensures.value in
    refused_counted c.self.invariant at refl

pub returns-in_err-may_retire-clause-cause : goal.returns-in_err-may_retire-clause-cause
returns-in_err-may_retire-clause-cause c =
    let at = at_place c.self.inside.objects.entries c.args.name.now c.in-Some.place c.index_mut-register.result.now c.in-Some.ensures.index
    c.index_mut-register.ensures.value in
    exactly_refused c.from_residual.result _ c.from_residual.ensures.1
    (cause_at c.self.view_is at (λ now object. retire_cause now object c.args.position) ∙ c.in_err-may_retire.ensures.cause)

pub unload-requires : goal.unload-requires
unload-requires c =
    let servers = c.self.invariant.summed.servers in
    let at = at_place c.self.inside.objects.entries c.args.name.now c.in-Some.place c.index_mut-register.result.now c.in-Some.ensures.index
    c.index_mut-register.ensures.value in
    record {
      count = omega (arith, servers, c.count.ensures);
      part = λ server there. part_loaded c.self.invariant at c.soundness.ensures.sound server there;
      within = λ server there. load_within c.self.invariant at c.soundness.ensures.sound server there;
    }

pub retire-requires : goal.retire-requires
retire-requires c =
    let at = at_place c.self.inside.objects.entries c.args.name.now c.in-Some.place c.index_mut-register.result.now c.in-Some.ensures.index
    c.index_mut-register.ensures.value in
    record { after = last_before c.self.invariant.kept at }

pub overflow_sub-self : goal.overflow_sub-self
overflow_sub-self c =
    let at = at_place c.self.inside.objects.entries c.args.name.now c.in-Some.place c.index_mut-register.result.now c.in-Some.ensures.index
    c.index_mut-register.ensures.value in
    omega (arith, part_freed c.self.invariant at c.soundness.ensures.sound c.in-Ok.ensures.freed)

pub invariant_of-self-in-Ok : goal.invariant_of-self-in-Ok
invariant_of-self-in-Ok c =
    let at = at_place c.self.inside.objects.entries c.args.name.now c.in-Some.place c.index_mut-register.result.now c.in-Some.ensures.index
    c.index_mut-register.ensures.value in
    let few : c.self.inside.counter + 1 ≤ MOST_STEPS =
    past_retired (c.self.inside.counter + 1) _ c.index_mut-register.result.now.object c.in-Ok.ensures.cause in
    retire_counted c.self.invariant at c.soundness.ensures.sound c.in-Ok.ensures.step few c.in-Ok.ensures.freed
    c.unload.new.loads c.unload.ensures.count c.unload.ensures.freed

pub returns : goal.returns
returns c =
    let at = at_place c.self.inside.objects.entries c.args.name.now c.in-Some.place c.index_mut-register.result.now c.in-Some.ensures.index
    c.index_mut-register.ensures.value in
    let few : c.self.inside.counter + 1 ≤ MOST_STEPS =
    past_retired (c.self.inside.counter + 1) _ c.index_mut-register.result.now.object c.in-Ok.ensures.cause in
    record {
      step = stepped_at c.self.view_is at Step.Retire c.in-Ok.ensures.step;
      may = may_at c.self.view_is at Step.Retire
          (c.allowed_steps_may_be_made.ensures.retire c.args.position (c.self.inside.counter + 1) c.in-Ok.ensures.cause);
      freed = freed_exactly c.self.invariant at c.soundness.ensures.sound c.in-Ok.ensures.step few c.in-Ok.ensures.freed
          c.self.view_is;
      cause = cause_at c.self.view_is at (λ now object. retire_cause now object c.args.position) ∙ c.in-Ok.ensures.cause;
      unchanged = tt;
    }

-- what the register refuses it would have refused before
pub unreachable-requires : goal.unreachable-requires
unreachable-requires c = absurd (let clash = sym c.in_ok-may_retire.ensures.cause ∙ c.in-Err.ensures.cause in cc)

pub returns-in_err-may_retire-clause-unchanged : goal.returns-in_err-may_retire-clause-unchanged
returns-in_err-may_retire-clause-unchanged c =
    let at = at_place c.self.inside.objects.entries c.args.name.now c.in-Some.place c.index_mut-register.result.now c.in-Some.ensures.index
    c.index_mut-register.ensures.value in
    on_err c.from_residual.result (unchanged_at at refl ∙ c.self.view_is)
