use Rattle.std.proofs.Common.{List, length, sym, subst, ap, ◌∙◌, slice_get}
use Rattle.std.proofs.lemmas.Option.{slice_get_read}
use Rattle.call.specs.Call.{OpenCall as Machine}
use Rattle.local_object.specs.Distinct.{DifferInIds}
use Rattle.local_object.proofs.CarriedCallLemmas.{distinct_remove}
use Rattle.local_object.proofs.calls.Calls.remove.Goals as goal

pub invariant_of-self : goal.invariant_of-self
invariant_of-self c = record {
  distinct = subst DifferInIds (sym c.remove.ensures.items)
      (distinct_remove c.self.inside.calls.items c.args.index c.self.invariant.distinct);
}

pub returns-clause-call : goal.returns-clause-call
returns-clause-call c =
    ap (λ (calls : List Machine). slice_get calls c.args.index) (sym c.self.view_is)
    ∙ slice_get_read c.self.inside.calls.items (length c.args.self.now) c.args.index c.remove.result
    (ap length (sym c.self.view_is)) c.requires c.remove.ensures.value
