use Rattle.std.proofs.Common.{ap, sym, false, true, ◌∙◌}
use Rattle.std.proofs.lemmas.Option.{slice_get_within}
use Rattle.open_calls.specs.OpenCalls.{open_call}
use Rattle.local_object.specs.Codes.{at_node}
use Rattle.local_object.specs.Local.{LocalObject}
use Rattle.local_object.specs.Taking.{grows_by}
use Rattle.local_object.proofs.CarriedCallLemmas.{open_none}
use Rattle.local_object.proofs.OpenLemmas.{object, open_is}
use Rattle.local_object.proofs.StartLemmas.{grows_is}
use Rattle.local_object.proofs.local_object.LocalObject.grows_by.Goals as goal

pub returns-in_default : goal.returns-in_default
returns-in_default c =
    let o = c.self.inside in
    sym (ap (grows_by (object o.node o.delta o.start o.reports o.places o.calls))
    (open_none o.node o.calls c.args.id c.in_default.ensures.index))
    ∙ ap (λ (l : LocalObject). grows_by l (open_call l.calls c.args.id)) c.self.view_is

pub at-requires : goal.at-requires
at-requires c =
    let at = c.in-Some.ensures.index in slice_get_within c.self.inside.calls c.in-Some.index at.call at.there

pub returns-then-has_raised : goal.returns-then-has_raised
returns-then-has_raised c =
    let o = c.self.inside in
    let call = c.at.result.now in
    c.can_grow.ensures
    ∙ grows_is (object o.node o.delta o.start o.reports o.places o.calls) c.args.self.now c.self.view_is c.args.id (at_node o.node call)
    (open_is o.node o.delta o.start o.reports o.places c.in-Some.ensures.distinct c.in-Some.ensures.index call c.at.ensures) true
    (sym c.if-has_raised.true ∙ c.has_raised.ensures)

pub returns-else-has_raised : goal.returns-else-has_raised
returns-else-has_raised c =
    let o = c.self.inside in
    let call = c.at.result.now in
    c.if-has_raised.false
    ∙ grows_is (object o.node o.delta o.start o.reports o.places o.calls) c.args.self.now c.self.view_is c.args.id (at_node o.node call)
    (open_is o.node o.delta o.start o.reports o.places c.in-Some.ensures.distinct c.in-Some.ensures.index call c.at.ensures) false
    (sym c.if-has_raised.false ∙ c.has_raised.ensures)
