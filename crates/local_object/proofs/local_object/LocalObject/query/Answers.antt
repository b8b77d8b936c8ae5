use Rattle.std.proofs.Common.{◌+◌, ◌^◌, ◌&&◌, leb, ltb, List, [], set, ap, sym, subst, ◌∙◌}
use Rattle.std.specs.List.{count_by}
use Rattle.std.proofs.lemmas.Option.{slice_get_within}
use Rattle.std.proofs.lemmas.Result.{on_ok_weaker}
use Rattle.layout.specs.Layout.{quorum_of}
use Rattle.mail.specs.Phase.{Phase}
use Rattle.local_object.specs.declared.report.Report.{Report}
use Rattle.local_object.specs.Local.{LocalObject, heard_place, layout_in}
use Rattle.local_object.specs.Queried.{querying}
use Rattle.local_object.specs.Querying.{is_to_query, query_events}
use Rattle.local_object.specs.Reports.{tells_unset}
use Rattle.local_object.specs.Taking.{IsOutcomeWithAnswers}
use Rattle.local_object.proofs.OpenLemmas.{object}
use Rattle.local_object.proofs.QueryingLemmas.{not_heard, not_told, queries_by, query_none}
use Rattle.local_object.proofs.local_object.LocalObject.query.Goals as goal

pub returns-in_default-clause-done : goal.returns-in_default-clause-done
returns-in_default-clause-done c =
    let o = c.self.inside in
    subst (λ (l : LocalObject). IsOutcomeWithAnswers l (query_events l c.args.id) l [] []) c.self.view_is
    (query_none o.node o.delta o.start o.reports o.places o.calls c.args.id c.in_default.ensures.index)

pub at-call-requires : goal.at-call-requires
at-call-requires c =
    let at = c.in-Some.ensures.index in slice_get_within c.self.inside.calls c.in-Some.index at.call at.there

pub returns-in_default-layout_of-clause-done : goal.returns-in_default-layout_of-clause-done
returns-in_default-layout_of-clause-done c =
    let o = c.self.inside in
    subst (λ (l : LocalObject). IsOutcomeWithAnswers l (query_events l c.args.id) l [] []) c.self.view_is
    (not_heard o.node o.delta o.start o.reports o.places c.in-Some.ensures.distinct c.in-Some.ensures.index c.at-call.result.now
    c.at-call.ensures
    (sym (c.in_default-layout_of.ensures ∙ ap (λ n. layout_in (heard_place o.places n))
    (c.from.ensures ∙ c.position.ensures ∙ ap (λ (p : Phase). p.position) c.phase.ensures.value))))

pub returns-then-not-stands_for_query-clause-done : goal.returns-then-not-stands_for_query-clause-done
returns-then-not-stands_for_query-clause-done c =
    let o = c.self.inside in
    let call = c.at-call.result.now in
    let layout = c.in-Some-layout_of.layout.now in
    let known = sym (c.in-Some-layout_of.ensures ∙ ap (λ n. layout_in (heard_place o.places n))
    (c.from.ensures ∙ c.position.ensures ∙ ap (λ (p : Phase). p.position) c.phase.ensures.value)) in
    subst (λ (l : LocalObject). IsOutcomeWithAnswers l (query_events l c.args.id) l [] []) c.self.view_is
    (not_told o.node o.delta o.start o.reports o.places c.in-Some.ensures.distinct c.in-Some.ensures.index c.at-call.result.now
    c.at-call.ensures c.in-Some-layout_of.layout.now known
    (ap (λ (reports : List Report). is_to_query call && (ltb (call.phase.number + 1) (2 ^ 32)
    && leb (quorum_of layout) (count_by (tells_unset call.id call.phase.number) reports)))
    (sym c.all.ensures.all) ∙ sym c.stands_for_query.ensures.value ∙ c.if-not-stands_for_query.true))

pub query-requires-clause-within : goal.query-requires-clause-within
query-requires-clause-within c =
    let at = c.in-Some.ensures.index in slice_get_within c.self.inside.calls c.in-Some.index at.call at.there

pub returns-clause-done : goal.returns-clause-done
returns-clause-done c =
    let o = c.self.inside in
    let call = c.at-call.result.now in
    let layout = c.in-Some-layout_of.layout.now in
    let known = sym (c.in-Some-layout_of.ensures ∙ ap (λ n. layout_in (heard_place o.places n))
    (c.from.ensures ∙ c.position.ensures ∙ ap (λ (p : Phase). p.position) c.phase.ensures.value)) in
    let test = ap (λ (reports : List Report). is_to_query call && (ltb (call.phase.number + 1) (2 ^ 32)
    && leb (quorum_of layout) (count_by (tells_unset call.id call.phase.number) reports))) (sym c.all.ensures.all)
    ∙ sym c.stands_for_query.ensures.value ∙ c.if-not-stands_for_query.false in
    on_ok_weaker c.query.result
    (λ queried. subst (λ (l : LocalObject). IsOutcomeWithAnswers l (query_events l c.args.id)
    (object o.node o.delta o.start o.reports o.places c.query.new.self) [] []) c.self.view_is
    (queries_by o.node o.delta o.start o.reports o.places c.in-Some.ensures.distinct c.in-Some.ensures.index call c.at-call.ensures layout
    known test (c.stands_for_query.ensures.some c.if-not-stands_for_query.false) c.all.ensures.apart.apart c.query.new.self
    (queried call c.at-call.ensures ∙ ap (λ (reports : List Report). set o.calls c.in-Some.index (querying call layout reports))
    c.all-2.ensures.all)))
    c.query.ensures.queried
