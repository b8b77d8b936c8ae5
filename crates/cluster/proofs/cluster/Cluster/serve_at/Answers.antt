use Rattle.std.proofs.Common.{◌+◌, ◌≤◌, inl, refl, ◌∙◌, arith}
use Rattle.tag.specs.declared.limits.TheConstants.{MOST_STEPS}
use Rattle.record.specs.Steps.{Step}
use Rattle.register.specs.declared.act.Act.TheVariants as act
use Rattle.register.proofs.RoomLemmas.{same_cause}
use Rattle.cluster.specs.Causes.{serving_cause}
use Rattle.cluster.proofs.NamedObjectPlaceLemmas.{object_is_at, index_within}
use Rattle.cluster.proofs.ObjectStepLemmas.{cluster_of, stepped_at, on_err, unchanged_at, last_before, own_cause_at}
use Rattle.cluster.proofs.PreconditionLemmas.{may_at}
use Rattle.cluster.proofs.RequestRoomLemmas.{has_room, own_none, own_of, is_of, memory_left}
use Rattle.cluster.proofs.RunningSumLemmas.{part_mailed, refused_counted}
use Rattle.cluster.proofs.ServedBytesLemmas.{part_at}
use Rattle.cluster.proofs.ServedSumLemmas.{served_exchanges, serve_counted}
use Rattle.cluster.proofs.cluster.Cluster.serve_at.Goals as goal

pub index_mut-register-requires : goal.index_mut-register-requires
index_mut-register-requires c =
    index_within c.self.inside.objects.entries c.args.name.now c.args.object c.self.view_is c.requires

pub invariant_of-self : goal.invariant_of-self
invariant_of-self c =
    let at = object_is_at _ _ _ c.self.view_is _ c.requires c.index_mut-register.ensures.value in
    refused_counted c.self.invariant at refl

pub returns-in_err-server-clause-cause : goal.returns-in_err-server-clause-cause
returns-in_err-server-clause-cause c =
    let at = object_is_at _ _ _ c.self.view_is _ c.requires c.index_mut-register.ensures.value in
    same_cause _ _ _ c.from_residual.ensures.1
    (inl (own_cause_at c.self.view_is at (serving_cause c.args.self.now c.args.place)
    ∙ c.in_err-server.ensures.cause c.args.self.now (is_of c.self.invariant.kept c.self.view_is)))

pub serve-requires : goal.serve-requires
serve-requires c =
    let at = object_is_at _ _ _ c.self.view_is _ c.requires c.index_mut-register.ensures.value in
    record { after = last_before c.self.invariant.kept at }

pub invariant_of-self-2 : goal.invariant_of-self-2
invariant_of-self-2 c =
    let at = object_is_at _ _ _ c.self.view_is _ c.requires c.index_mut-register.ensures.value in
    let here = c.in_ok-server.ensures.cause _ (own_of c.self.invariant.kept) in
    let room = has_room (cluster_of c.self.inside.servers c.self.inside.layouts.items c.self.inside.objects.entries c.self.inside.counter)
    c.args.place c.index_mut-register.result.now.object here in
    let next = room.few in
    let few : c.self.inside.counter + 1 ≤ MOST_STEPS = omega (arith, next) in
    serve_counted c.self.invariant at room c.in_ok-server.server c.in_ok-server.ensures.server c.waiting-waited.ensures.sound
    c.serve.new.self c.in_ok-serve.ensures.step few
    c.stored_in_all-before.result c.stored_in_all-after.result c.stored_in_all-before.ensures.value c.stored_in_all-after.ensures.value
    c.exchanged-self-inside.result c.exchanged-self-inside.ensures c.replace_part.new.self c.replace_part.ensures
    c.waiting-waited.result c.waiting.result c.exchanged-self-inside-2.result c.waiting-waited.ensures.value
    c.waiting.ensures.value c.waiting.ensures.within c.exchanged-self-inside-2.ensures

pub invariant_of-self-in_err-serve : goal.invariant_of-self-in_err-serve
invariant_of-self-in_err-serve c =
    let at = object_is_at _ _ _ c.self.view_is _ c.requires c.index_mut-register.ensures.value in
    refused_counted c.self.invariant at c.in_err-serve.ensures.unchanged

pub returns : goal.returns
returns c =
    let at = object_is_at _ _ _ c.self.view_is _ c.requires c.index_mut-register.ensures.value in
    record {
      step = stepped_at c.self.view_is at (Step.Serve c.args.place) c.in_ok-serve.ensures.step;
      may = may_at c.self.view_is at (Step.Serve c.args.place)
          (c.allowed_steps_may_be_made.ensures.acts (act.Serve c.args.place) (c.self.inside.counter + 1) tt c.in_ok-serve.ensures.cause);
      cause = own_cause_at c.self.view_is at (serving_cause c.args.self.now c.args.place)
          ∙ c.in_ok-server.ensures.cause c.args.self.now (is_of c.self.invariant.kept c.self.view_is);
      unchanged = tt;
    }

pub returns-in_err-serve-clause-cause : goal.returns-in_err-serve-clause-cause
returns-in_err-serve-clause-cause c =
    let at = object_is_at _ _ _ c.self.view_is _ c.requires c.index_mut-register.ensures.value in
    let here = c.in_ok-server.ensures.cause _ (own_of c.self.invariant.kept) in
    let room = has_room (cluster_of c.self.inside.servers c.self.inside.layouts.items c.self.inside.objects.entries c.self.inside.counter)
    c.args.place c.index_mut-register.result.now.object here in
    let next = room.few in
    let few : c.self.inside.counter + 1 ≤ MOST_STEPS = omega (arith, next) in
    let part = part_at c.self.invariant.kept at in
    let all = c.self.invariant.kept.stored in
    same_cause _ _ _ c.from_residual-in_err-serve.ensures.1
    (memory_left (own_cause_at c.self.view_is at (serving_cause c.args.self.now c.args.place)
    ∙ c.in_ok-server.ensures.cause c.args.self.now (is_of c.self.invariant.kept c.self.view_is))
    (own_none room (c.self.inside.counter + 1) few (omega (arith, part, all))) c.in_err-serve.ensures.cause)

pub exchanged-self-inside-requires : goal.exchanged-self-inside-requires
exchanged-self-inside-requires c =
    let at = object_is_at _ _ _ c.self.view_is _ c.requires c.index_mut-register.ensures.value in
    let here = c.in_ok-server.ensures.cause _ (own_of c.self.invariant.kept) in
    let room = has_room _ c.args.place c.index_mut-register.result.now.object here in
    let sums = served_exchanges c.self.invariant at room c.in_ok-server.server c.in_ok-server.ensures.server c.waiting-waited.ensures.sound
    c.serve.new.self c.in_ok-serve.ensures.step
    c.stored_in_all-before.result c.stored_in_all-after.result c.stored_in_all-before.ensures.value c.stored_in_all-after.ensures.value in
    record { part = sums.within.0; within = sums.within.1 }

pub replace_part-requires : goal.replace_part-requires
replace_part-requires c =
    let at = object_is_at _ _ _ c.self.view_is _ c.requires c.index_mut-register.ensures.value in
    let here = c.in_ok-server.ensures.cause _ (own_of c.self.invariant.kept) in
    let room = has_room _ c.args.place c.index_mut-register.result.now.object here in
    let sums = served_exchanges c.self.invariant at room c.in_ok-server.server c.in_ok-server.ensures.server c.waiting-waited.ensures.sound
    c.serve.new.self c.in_ok-serve.ensures.step
    c.stored_in_all-before.result c.stored_in_all-after.result c.stored_in_all-before.ensures.value c.stored_in_all-after.ensures.value in
    record { there = sums.there; part = sums.part; within = sums.load }

pub exchanged-self-inside-requires-2 : goal.exchanged-self-inside-requires-2
exchanged-self-inside-requires-2 c =
    let at = object_is_at _ _ _ c.self.view_is _ c.requires c.index_mut-register.ensures.value in
    let room = part_mailed c.self.invariant at c.waiting-waited.result c.waiting.result c.waiting-waited.ensures.value
    c.waiting.ensures.within in
    record { part = room.0; within = room.1 }

pub returns-in_err-server-clause-unchanged : goal.returns-in_err-server-clause-unchanged
returns-in_err-server-clause-unchanged c =
    let at = object_is_at _ _ _ c.self.view_is _ c.requires c.index_mut-register.ensures.value in
    on_err c.from_residual.result (unchanged_at at refl ∙ c.self.view_is)

pub returns-in_err-serve-clause-unchanged : goal.returns-in_err-serve-clause-unchanged
returns-in_err-serve-clause-unchanged c =
    let at = object_is_at _ _ _ c.self.view_is _ c.requires c.index_mut-register.ensures.value in
    on_err c.from_residual-in_err-serve.result (unchanged_at at c.in_err-serve.ensures.unchanged ∙ c.self.view_is)
