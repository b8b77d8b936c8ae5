use Rattle.std.proofs.Common.{List, [], ◌∷◌, ap, sym, ◌∙◌}
use Rattle.std.proofs.lemmas.Option.{slice_get_within}
use Rattle.open_calls.specs.OpenCalls.{NodeCall, open_call}
use Rattle.local_object.specs.declared.progress.Ended.{Ended}
use Rattle.local_object.specs.declared.report.Report.{Report}
use Rattle.local_object.specs.Ended.{told_early_if}
use Rattle.local_object.specs.Events.{ended_here}
use Rattle.local_object.specs.Local.{LocalObject}
use Rattle.local_object.specs.Reports.{without_reports}
use Rattle.local_object.proofs.CarriedCallLemmas.{open_none, without_others}
use Rattle.local_object.proofs.OpenLemmas.{ended_is, object, open_is}
use Rattle.local_object.proofs.local_object.LocalObject.end.Goals as goal

pub returns-in_default-clause-local : goal.returns-in_default-clause-local
returns-in_default-clause-local c =
    let o = c.self.inside in
    let before = object o.node o.delta o.start o.reports o.places o.calls in
    ap (λ (rs : List Report). record before { reports = rs }) c.forget.ensures
    ∙ ap (λ (cs : List NodeCall). record before { calls = cs; reports = without_reports c.args.id o.reports })
    (sym (without_others o.node c.args.id o.calls c.in_default.ensures.index))
    ∙ ap (λ (l : LocalObject). ended_here l c.args.id) c.self.view_is

pub returns-in_default-clause-told : goal.returns-in_default-clause-told
returns-in_default-clause-told c =
    let o = c.self.inside in
    sym (ap (λ found. told_early_if found c.args.returned) (open_none o.node o.calls c.args.id c.in_default.ensures.index))
    ∙ ap (λ (l : LocalObject). told_early_if (open_call l.calls c.args.id) c.args.returned) c.self.view_is

pub remove-call-requires : goal.remove-call-requires
remove-call-requires c =
    let at = c.in-Some.ensures.index in slice_get_within c.self.inside.calls c.in-Some.index at.call at.there

pub returns-clause-local : goal.returns-clause-local
returns-clause-local c =
    let o = c.self.inside in
    ended_is o.node o.delta o.start o.reports o.places c.in-Some.ensures.distinct c.in-Some.ensures.index c.remove-call.result
    c.remove-call.ensures.call c.remove-call.new.self c.forget.new.self c.remove-call.ensures.rest c.forget.ensures
    ∙ ap (λ (l : LocalObject). ended_here l c.args.id) c.self.view_is

pub returns-clause-told : goal.returns-clause-told
returns-clause-told c =
    let o = c.self.inside in
    ap (λ (e : Ended). e ∷ []) c.in_ok-ended_early.ensures.told
    ∙ sym (ap (λ found. told_early_if found c.args.returned)
    (open_is o.node o.delta o.start o.reports o.places c.in-Some.ensures.distinct c.in-Some.ensures.index c.remove-call.result
    c.remove-call.ensures.call))
    ∙ ap (λ (l : LocalObject). told_early_if (open_call l.calls c.args.id) c.args.returned) c.self.view_is
