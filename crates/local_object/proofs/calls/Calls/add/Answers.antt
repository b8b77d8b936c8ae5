use Rattle.std.proofs.Common.{sym, subst}
use Rattle.local_object.specs.Distinct.{HaveOtherIds, DifferInIds}
use Rattle.local_object.proofs.CarriedCallLemmas.{distinct_push}
use Rattle.local_object.proofs.calls.Calls.add.Goals as goal

pub invariant_of-self-2 : goal.invariant_of-self-2
invariant_of-self-2 c = record {
  distinct = subst DifferInIds (sym c.in_ok-push.ensures.items)
      (distinct_push c.self.inside.calls.items c.args.call c.self.invariant.distinct
      (subst (HaveOtherIds c.args.call.id) (sym c.self.view_is) c.requires));
}
