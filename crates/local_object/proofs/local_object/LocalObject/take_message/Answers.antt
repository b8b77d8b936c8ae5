use Rattle.std.proofs.Common.{◌≡◌, List, ap, refl, sym, subst, ◌∙◌}
use Rattle.std.proofs.lemmas.Option.{slice_get_within}
use Rattle.call.specs.Call.{OpenCall as Machine}
use Rattle.mail.specs.Phase.{Phase}
use Rattle.local_object.specs.declared.report.Report.{Report}
use Rattle.local_object.specs.Going.{taken_here}
use Rattle.local_object.specs.Local.{LocalObject}
use Rattle.local_object.specs.Reports.{reports_after, told_to}
use Rattle.local_object.proofs.CarriedCallLemmas.{same_call}
use Rattle.local_object.proofs.OpenLemmas.{object, taken_is, taken_none}
use Rattle.local_object.proofs.local_object.LocalObject.take_message.Goals as goal

pub returns-in_default-clause-taken : goal.returns-in_default-clause-taken
returns-in_default-clause-taken c =
    let o = c.self.inside in
    subst (λ (l : LocalObject). l ≡ (taken_here l c.args.message c.args.told).local) c.self.view_is
    (taken_none o.node o.delta o.start o.reports o.places o.calls c.args.message c.args.told c.in_default.ensures.index)

pub at-call-requires : goal.at-call-requires
at-call-requires c =
    let at = c.in-Some.ensures.index in slice_get_within c.self.inside.calls c.in-Some.index at.call at.there

pub take-requires : goal.take-requires
take-requires c =
    let at = c.in-Some.ensures.index in slice_get_within c.self.inside.calls c.in-Some.index at.call at.there

pub returns-clause-taken : goal.returns-clause-taken
returns-clause-taken c =
    let o = c.self.inside in
    let at = c.in-Some.ensures.index in
    let read = c.at-call.result.now in
    let message = c.args.message in
    let same = same_call at.call read (sym at.there ∙ c.at-call.ensures) in
    let number = c.number-number.ensures ∙ ap (λ (p : Phase). p.number) c.phase.ensures.value in
    let heeded : c.heed.new.self ≡ reports_after at.call.phase.number message (told_to at.call.kind c.args.told) o.reports =
    c.in_ok-heed.ensures.added
    ∙ ap (λ n. reports_after n message c.told_to-told.result o.reports) number
    ∙ ap (λ t. reports_after read.phase.number message t o.reports) c.told_to-told.ensures
    ∙ ap (λ (m : Machine). reports_after m.phase.number message (told_to m.kind c.args.told) o.reports) (sym same) in
    ap (λ (rs : List Report). record (object o.node o.delta o.start o.reports o.places c.take.new.self) { reports = rs }) heeded
    ∙ ap (λ (calls : List Machine). record (object o.node o.delta o.start o.reports o.places calls) {
      reports = reports_after at.call.phase.number message (told_to at.call.kind c.args.told) o.reports;
    }) (c.take.ensures at.call at.there)
    ∙ taken_is o.node o.delta o.start o.reports o.places c.in-Some.ensures.distinct at message c.args.told refl
    ∙ ap (λ (l : LocalObject). (taken_here l message c.args.told).local) c.self.view_is
