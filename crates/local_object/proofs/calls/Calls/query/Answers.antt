use Rattle.std.proofs.Common.{ap, ◌∙◌}
use Rattle.call.specs.Call.{OpenCall as Machine}
use Rattle.local_object.specs.Queried.{querying}
use Rattle.local_object.proofs.CarriedCallLemmas.{put_distinct, put_is}
use Rattle.local_object.proofs.HeedingLemmas.{querying_id}
use Rattle.local_object.proofs.calls.Calls.query.Goals as goal

pub invariant_of-self-2 : goal.invariant_of-self-2
invariant_of-self-2 c = record {
  distinct = put_distinct c.self.inside.calls.items c.args.self.now c.args.index c.index_mut.result.now c.query_by.new.call c.self.view_is
      c.requires.within c.index_mut.ensures.value
      (ap (λ (call : Machine). call.id) c.in_ok-query_by.ensures.queried
      ∙ querying_id 0 c.index_mut.result.now c.args.layout.now c.args.reports.now)
      c.self.invariant.distinct;
}

pub returns-clause-queried : goal.returns-clause-queried
returns-clause-queried c = λ call at.
    put_is (λ (call : Machine). querying call c.args.layout.now c.args.reports.now) c.self.inside.calls.items
    c.args.self.now c.args.index c.index_mut.result.now c.query_by.new.call call c.self.view_is c.index_mut.ensures.value
    c.in_ok-query_by.ensures.queried at
