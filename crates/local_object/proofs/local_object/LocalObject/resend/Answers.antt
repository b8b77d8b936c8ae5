use Rattle.std.proofs.Common.{◌≡◌, ap, sym, subst, ◌∙◌}
use Rattle.std.specs.List.{AllByRecursion}
use Rattle.std.proofs.lemmas.Option.{slice_get_within}
use Rattle.std.proofs.lemmas.Result.{IfOk-weaker}
use Rattle.bank.specs.declared.kind.Kind.{Kind}
use Rattle.encoder.specs.Fragment.{fragment}
use Rattle.mail.specs.Phase.{Phase}
use Rattle.local_object.specs.Coding.{is_sendable}
use Rattle.local_object.specs.Local.{LocalObject, layout_in, heard_place}
use Rattle.local_object.specs.Resent.{IsResent, letters_again, letters_again_of}
use Rattle.local_object.proofs.CarriedCallLemmas.{open_none}
use Rattle.local_object.proofs.OpenLemmas.{object, sent_again, unknown_again, unsendable_again}
use Rattle.local_object.proofs.ResentLemmas.{all_resent}
use Rattle.local_object.proofs.local_object.LocalObject.resend.Goals as goal

pub returns-in_default-clause-letters : goal.returns-in_default-clause-letters
returns-in_default-clause-letters c =
    let o = c.self.inside in
    subst (λ (l : LocalObject). c.new.result.items ≡ letters_again fragment l c.args.id) c.self.view_is
    (c.new.ensures.items
    ∙ sym (ap (letters_again_of fragment (object o.node o.delta o.start o.reports o.places o.calls))
    (open_none o.node o.calls c.args.id c.in_default.ensures.index)))

pub at-call-requires : goal.at-call-requires
at-call-requires c =
    let at = c.in-Some.ensures.index in slice_get_within c.self.inside.calls c.in-Some.index at.call at.there

pub returns-in_default-shared_layout_of-clause-letters : goal.returns-in_default-shared_layout_of-clause-letters
returns-in_default-shared_layout_of-clause-letters c =
    let o = c.self.inside in
    subst (λ (l : LocalObject). c.new-in_default-shared_layout_of.result.items ≡ letters_again fragment l c.args.id) c.self.view_is
    (c.new-in_default-shared_layout_of.ensures.items
    ∙ sym (unknown_again o.node o.delta o.start o.reports o.places c.in-Some.ensures.distinct c.in-Some.ensures.index c.at-call.result.now
    c.at-call.ensures
    (sym (c.in_default-shared_layout_of.ensures
    ∙ ap (λ n. layout_in (heard_place o.places n))
    (c.from.ensures ∙ c.position.ensures ∙ ap (λ (p : Phase). p.position) c.phase-phase.ensures.value)))))

pub returns-then-not-is_sendable-clause-letters : goal.returns-then-not-is_sendable-clause-letters
returns-then-not-is_sendable-clause-letters c =
    let o = c.self.inside in
    let call = c.at-call.result.now in
    let kind = c.kind.ensures ∙ ap (λ (p : Phase). p.kind) c.phase-phase.ensures.value in
    subst (λ (l : LocalObject). c.new-then-not-is_sendable.result.items ≡ letters_again fragment l c.args.id) c.self.view_is
    (c.new-then-not-is_sendable.ensures.items
    ∙ sym (unsendable_again o.node o.delta o.start o.reports o.places c.in-Some.ensures.distinct c.in-Some.ensures.index call
    c.at-call.ensures c.in-Some-shared_layout_of.layout.now
    (sym (c.in-Some-shared_layout_of.ensures
    ∙ ap (λ n. layout_in (heard_place o.places n))
    (c.from.ensures ∙ c.position.ensures ∙ ap (λ (p : Phase). p.position) c.phase-phase.ensures.value)))
    (ap (λ (k : Kind). is_sendable k call) (sym kind) ∙ sym c.is_sendable.ensures ∙ c.if-not-is_sendable.true)))

pub returns-clause-letters : goal.returns-clause-letters
returns-clause-letters c =
    let o = c.self.inside in
    let call = c.at-call.result.now in
    let kind = c.kind.ensures ∙ ap (λ (p : Phase). p.kind) c.phase-phase.ensures.value in
    let again = sent_again o.node o.delta o.start o.reports o.places c.in-Some.ensures.distinct c.in-Some.ensures.index call
    c.at-call.ensures c.in-Some-shared_layout_of.layout.now
    (sym (c.in-Some-shared_layout_of.ensures
    ∙ ap (λ n. layout_in (heard_place o.places n))
    (c.from.ensures ∙ c.position.ensures ∙ ap (λ (p : Phase). p.position) c.phase-phase.ensures.value)))
    (ap (λ (k : Kind). is_sendable k call) (sym kind) ∙ sym c.is_sendable.ensures ∙ c.if-not-is_sendable.false) in
    let at_self = ap (λ (l : LocalObject). letters_again fragment l c.args.id) c.self.view_is in
    IfOk-weaker c.missing.result _ _ (λ letters is. is ∙ sym again ∙ at_self) c.missing.ensures.letters

pub returns-clause-resent : goal.returns-clause-resent
returns-clause-resent c =
    IfOk-weaker c.missing.result _ _
    (λ letters is. subst (AllByRecursion (IsResent fragment c.args.self.now)) (sym is) (all_resent fragment c.args.self.now c.args.id))
    (returns-clause-letters c)
