use Rattle.std.proofs.Common.{suc, ◌+◌, length, Ok, Err, subst, ap, sym, ◌∙◌}
use Rattle.std.proofs.lemmas.Result.{err_from_is_err_and}
use Rattle.cluster.specs.Acts.{ServersAllow}
use Rattle.register.specs.Act.{act_cause, step_of}
use Rattle.register.specs.State.{next_id}
use Rattle.cluster.specs.Cluster.{Cluster}
use Rattle.cluster.specs.Preconditions.{MayMake}
use Rattle.cluster.specs.Steps.{with_step}
use Rattle.cluster.proofs.ActLemmas.{act_at, act_by, act_err, act_none, act_ok, no_more, no_less}
use Rattle.cluster.proofs.NamedObjectPlaceLemmas.{object_is_at, index_within}
use Rattle.cluster.proofs.ObjectStepLemmas.{stepped_at, unchanged_at, last_before, cause_at, next_id_at}
use Rattle.cluster.proofs.PreconditionLemmas.{may_at}
use Rattle.cluster.proofs.RunningSumLemmas.{part_mailed, refused_counted, summed_at}
use Rattle.cluster.proofs.cluster.Cluster.make_at.Goals as goal

pub index_mut-register-requires : goal.index_mut-register-requires
index_mut-register-requires c =
    index_within c.self.inside.objects.entries c.args.name.now c.args.object c.self.view_is c.requires.placed

pub act-requires : goal.act-requires
act-requires c =
    let at = object_is_at _ _ _ c.self.view_is _ c.requires.placed c.index_mut-register.ensures.value in
    record { after = last_before c.self.invariant.kept at }

pub invariant_of-self-2 : goal.invariant_of-self-2
invariant_of-self-2 c =
    let at = object_is_at _ _ _ c.self.view_is _ c.requires.placed c.index_mut-register.ensures.value in
    let number = next_id c.index_mut-register.result.now.object in
    let ready = subst (λ n. ServersAllow n c.args.act) (sym (ap (λ (k : Cluster). length k.servers) c.self.view_is)) c.requires.ready in
    record {
      kept = act_at c.self.invariant.kept at c.args.act ready c.in_ok-act.ensures.step
          (act_none c.in_ok-act.field-0 c.args.act c.in_ok-act.ensures.cause)
          c.begun-begun.ensures.count;
      summed = summed_at c.self.invariant.summed at c.waiting-waited.ensures.sound (step_of number c.args.act)
          (no_more (length c.self.inside.servers) number c.index_mut-register.result.now.object c.args.act ready)
          (no_less (length c.self.inside.servers) number c.index_mut-register.result.now.object c.args.act ready
          (suc c.self.inside.counter))
          c.in_ok-act.ensures.step
          c.waiting-waited.result c.waiting.result c.exchanged-self-inside.result c.waiting-waited.ensures.value c.waiting.ensures.value
          c.waiting.ensures.within c.exchanged-self-inside.ensures;
    }

pub invariant_of-self : goal.invariant_of-self
invariant_of-self c =
    let at = object_is_at _ _ _ c.self.view_is _ c.requires.placed c.index_mut-register.ensures.value in
    refused_counted c.self.invariant at c.in_err-act.ensures.unchanged

pub returns : goal.returns
returns c =
    let at = object_is_at _ _ _ c.self.view_is _ c.requires.placed c.index_mut-register.ensures.value in
    record {
      step = stepped_at c.self.view_is at (step_of (next_id c.index_mut-register.result.now.object) c.args.act)
          c.in_ok-act.ensures.step
          ∙ ap (λ n. with_step c.args.self.now c.args.name.now (step_of n c.args.act)) (sym (next_id_at c.self.view_is at));
      may = subst (λ n. MayMake c.args.self.now c.args.name.now (step_of n c.args.act)) (sym (next_id_at c.self.view_is at))
          (may_at c.self.view_is at (step_of (next_id c.index_mut-register.result.now.object) c.args.act)
          (c.allowed_steps_may_be_made.ensures.acts c.args.act (c.self.inside.counter + 1) c.values_are_lawful.ensures
          (act_none c.in_ok-act.field-0 c.args.act c.in_ok-act.ensures.cause)));
      cause = act_by (Ok tt) c.args.act (cause_at c.self.view_is at (act_cause c.args.act))
          (act_ok _ c.in_ok-act.field-0 tt c.args.act c.in_ok-act.ensures.cause);
      unchanged = tt;
    }

pub returns-in_err-act-clause-cause : goal.returns-in_err-act-clause-cause
returns-in_err-act-clause-cause c =
    let at = object_is_at _ _ _ c.self.view_is _ c.requires.placed c.index_mut-register.ensures.value in
    act_err _ _ _ c.args.act c.from_residual.result c.from_residual.ensures.1
    (act_by (Err c.in_err-act.field-0.0) c.args.act (cause_at c.self.view_is at (act_cause c.args.act)) c.in_err-act.ensures.cause)

pub returns-in_err-act-clause-unchanged : goal.returns-in_err-act-clause-unchanged
returns-in_err-act-clause-unchanged c =
    let at = object_is_at _ _ _ c.self.view_is _ c.requires.placed c.index_mut-register.ensures.value in
    let p = err_from_is_err_and c.from_residual.result c.from_residual.ensures.1 in
    rw p.1 (unchanged_at at c.in_err-act.ensures.unchanged ∙ c.self.view_is)

pub exchanged-self-inside-requires : goal.exchanged-self-inside-requires
exchanged-self-inside-requires c =
    let at = object_is_at _ _ _ c.self.view_is _ c.requires.placed c.index_mut-register.ensures.value in
    let room = part_mailed c.self.invariant at c.waiting-waited.result c.waiting.result c.waiting-waited.ensures.value
    c.waiting.ensures.within in
    record { part = room.0; within = room.1 }
