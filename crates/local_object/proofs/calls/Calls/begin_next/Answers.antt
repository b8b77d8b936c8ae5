use Rattle.std.proofs.Common.{ap}
use Rattle.call.specs.Call.{OpenCall as Machine}
use Rattle.call.specs.Steps.{entered, phase_next}
use Rattle.local_object.proofs.CarriedCallLemmas.{put_distinct, put_is}
use Rattle.local_object.proofs.calls.Calls.begin_next.Goals as goal

pub invariant_of-self-2 : goal.invariant_of-self-2
invariant_of-self-2 c = record {
  distinct = put_distinct c.self.inside.calls.items c.args.self.now c.args.index c.index_mut.result.now c.begin_next.new.self c.self.view_is
      c.requires.within c.index_mut.ensures.value (ap (λ (call : Machine). call.id) c.in_ok-begin_next.ensures.call)
      c.self.invariant.distinct;
}

pub returns-clause-begun : goal.returns-clause-begun
returns-clause-begun c = λ call at.
    put_is (λ (call : Machine). entered call (phase_next call c.args.kind c.args.position c.args.layout.now 0)) c.self.inside.calls.items
    c.args.self.now c.args.index c.index_mut.result.now c.begin_next.new.self call c.self.view_is c.index_mut.ensures.value
    c.in_ok-begin_next.ensures.call at
