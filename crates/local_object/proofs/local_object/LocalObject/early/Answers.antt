use Rattle.std.proofs.Common.{List, ℕ, IfOk, Option, MatchOption, ap, sym, subst, ◌∙◌}
use Rattle.std.proofs.lemmas.Option.{slice_get_within}
use Rattle.std.proofs.lemmas.Result.{IfOk-weaker}
use Rattle.mail.specs.Phase.{Phase}
use Rattle.local_object.specs.declared.report.Report.{Report}
use Rattle.local_object.specs.EarlyEnds.{CanEndEarly, EndsEarlyWith}
use Rattle.local_object.specs.Local.{LocalObject, heard_place, layout_in}
use Rattle.local_object.proofs.EarlyCallLemmas.{early_is, none_to_end, unknown_to_end}
use Rattle.local_object.proofs.local_object.LocalObject.early.Goals as goal

pub returns-in_default-clause-value : goal.returns-in_default-clause-value
returns-in_default-clause-value c =
    let o = c.self.inside in
    subst (λ (l : LocalObject). (r : Option (List ℕ)) → CanEndEarly l c.args.id r → ⊥) c.self.view_is
    (none_to_end o.node o.delta o.start o.reports o.places o.calls c.args.id c.in_default.ensures.index)

pub at-call-requires : goal.at-call-requires
at-call-requires c =
    let at = c.in-Some.ensures.index in slice_get_within c.self.inside.calls c.in-Some.index at.call at.there

pub returns-in_default-layout_of-clause-value : goal.returns-in_default-layout_of-clause-value
returns-in_default-layout_of-clause-value c =
    let o = c.self.inside in
    let call = c.at-call.result.now in
    subst (λ (l : LocalObject). (r : Option (List ℕ)) → CanEndEarly l c.args.id r → ⊥) c.self.view_is
    (unknown_to_end o.node o.delta o.start o.reports o.places c.in-Some.ensures.distinct c.in-Some.ensures.index call c.at-call.ensures
    (sym (c.in_default-layout_of.ensures ∙ ap (λ n. layout_in (heard_place o.places n))
    (c.from.ensures ∙ c.position.ensures ∙ ap (λ (p : Phase). p.position) c.phase.ensures.value))))

pub returns-clause-value : goal.returns-clause-value
returns-clause-value c =
    let o = c.self.inside in
    let call = c.at-call.result.now in
    let distinct = c.in-Some.ensures.distinct in
    let at = c.in-Some.ensures.index in
    let layout = c.in-Some-layout_of.layout.now in
    let known = sym (c.in-Some-layout_of.ensures ∙ ap (λ n. layout_in (heard_place o.places n))
    (c.from.ensures ∙ c.position.ensures ∙ ap (λ (p : Phase). p.position) c.phase.ensures.value)) in
    IfOk-weaker c.early_value.result _ _
    (λ value is. subst (λ (l : LocalObject). MatchOption value ((r : Option (List ℕ)) → CanEndEarly l c.args.id r → ⊥)
    (CanEndEarly l c.args.id)) c.self.view_is
    (early_is o.node o.delta o.start o.reports o.places distinct at call c.at-call.ensures layout known value is))
    (subst (λ (reports : List Report). IfOk c.early_value.result (λ value. MatchOption value
    ((r : Option (List ℕ)) → EndsEarlyWith o.places call layout reports r → ⊥) (EndsEarlyWith o.places call layout reports)))
    c.all.ensures.all c.early_value.ensures.value)
