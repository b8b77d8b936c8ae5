use Rattle.std.proofs.Common.{Some, ap}
use Rattle.call.specs.Call.{OpenCall as Machine}
use Rattle.local_object.proofs.CarriedCallLemmas.{put_distinct, put_is}
use Rattle.local_object.proofs.calls.Calls.settle.Goals as goal

pub invariant_of-self : goal.invariant_of-self
invariant_of-self c = record {
  distinct = put_distinct c.self.inside.calls.items c.args.self.now c.args.index c.index_mut.result.now c.settle.new.self c.self.view_is
      c.requires c.index_mut.ensures.value (ap (λ (call : Machine). call.id) c.settle.ensures) c.self.invariant.distinct;
}

pub returns : goal.returns
returns c = λ call at.
    put_is (λ (call : Machine). record call { settled = Some c.args.value }) c.self.inside.calls.items c.args.self.now c.args.index
    c.index_mut.result.now c.settle.new.self call c.self.view_is c.index_mut.ensures.value c.settle.ensures at
