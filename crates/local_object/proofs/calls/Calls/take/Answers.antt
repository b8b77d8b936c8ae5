use Rattle.std.proofs.Common.{ap}
use Rattle.call.specs.Call.{OpenCall as Machine}
use Rattle.call.specs.Steps.{taken_call}
use Rattle.local_object.proofs.CarriedCallLemmas.{put_distinct, put_is}
use Rattle.local_object.proofs.calls.Calls.take.Goals as goal

pub invariant_of-self : goal.invariant_of-self
invariant_of-self c = record {
  distinct = put_distinct c.self.inside.calls.items c.args.self.now c.args.index c.index_mut.result.now c.take.new.self c.self.view_is
      c.requires c.index_mut.ensures.value (ap (λ (call : Machine). call.id) c.take.ensures.call) c.self.invariant.distinct;
}

pub returns : goal.returns
returns c = λ call at.
    put_is (taken_call c.args.message 0) c.self.inside.calls.items c.args.self.now c.args.index c.index_mut.result.now c.take.new.self call
    c.self.view_is c.index_mut.ensures.value c.take.ensures.call at
