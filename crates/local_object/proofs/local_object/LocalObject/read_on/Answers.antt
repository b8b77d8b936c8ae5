use Rattle.std.proofs.Common.{◌*◌, ◌-◌, ap, sym, subst, ◌∙◌, arith}
use Rattle.std.proofs.lemmas.Bool.{le-ltb, lt-ltb}
use Rattle.std.proofs.lemmas.Option.{slice_get_within}
use Rattle.mail.specs.Phase.{Phase}
use Rattle.local_object.specs.Anew.{IsReadLater}
use Rattle.local_object.specs.Doing.{IsOutcome}
use Rattle.local_object.specs.Local.{LocalObject}
use Rattle.local_object.specs.ReadingOn.{read_on_events}
use Rattle.local_object.proofs.OpenLemmas.{object}
use Rattle.local_object.proofs.ReadingLemmas.{not_before, not_reading, nothing_read, reads_none, reads_on_by}
use Rattle.local_object.proofs.local_object.LocalObject.read_on.Goals as goal

pub returns-in_default-clause-done : goal.returns-in_default-clause-done
returns-in_default-clause-done c =
    let o = c.self.inside in
    nothing_read o.node o.delta o.start o.reports o.places o.calls c.args.id c.args.self.now c.self.view_is
    (reads_none o.node o.delta o.start o.reports o.places o.calls c.args.id c.in_default.ensures.index) c.new.result.items
    c.new.ensures.items

pub at-call-requires : goal.at-call-requires
at-call-requires c =
    let at = c.in-Some.ensures.index in slice_get_within c.self.inside.calls c.in-Some.index at.call at.there

pub returns-then-not-is_reading-clause-done : goal.returns-then-not-is_reading-clause-done
returns-then-not-is_reading-clause-done c =
    let o = c.self.inside in
    nothing_read o.node o.delta o.start o.reports o.places o.calls c.args.id c.args.self.now c.self.view_is
    (not_reading o.node o.delta o.start o.reports o.places c.in-Some.ensures.distinct c.in-Some.ensures.index c.at-call.result.now
    c.at-call.ensures (sym c.is_reading.ensures.value ∙ c.if-not-is_reading.true))
    c.new-then-not-is_reading.result.items c.new-then-not-is_reading.ensures.items

pub returns-then-position-self-clause-done : goal.returns-then-position-self-clause-done
returns-then-position-self-clause-done c =
    let o = c.self.inside in
    let call = c.at-call.result.now in
    let position = c.position-position.ensures ∙ ap (λ (p : Phase). p.position) c.phase.ensures.value in
    nothing_read o.node o.delta o.start o.reports o.places o.calls c.args.id c.args.self.now c.self.view_is
    (not_before o.node o.delta o.start o.reports o.places c.in-Some.ensures.distinct c.in-Some.ensures.index call c.at-call.ensures
    (sym c.is_reading.ensures.value ∙ c.if-not-is_reading.false)
    (le-ltb call.phase.position o.start (omega (arith, position, c.if-position-self.true))))
    c.new-then-position-self.result.items c.new-then-position-self.ensures.items

pub read_at-requires-clause-within : goal.read_at-requires-clause-within
read_at-requires-clause-within c =
    let at = c.in-Some.ensures.index in slice_get_within c.self.inside.calls c.in-Some.index at.call at.there

pub returns-clause-done : goal.returns-clause-done
returns-clause-done c =
    let o = c.self.inside in
    let call = c.at-call.result.now in
    let new = c.read_at.new.calls in
    let letters = c.in_ok-letters.letters.items in
    let position = c.position-position.ensures ∙ ap (λ (p : Phase). p.position) c.phase.ensures.value in
    subst (λ (l : LocalObject). IsOutcome l (read_on_events l c.args.id) (object o.node o.delta o.start o.reports o.places new) letters)
    c.self.view_is
    (reads_on_by o.node o.delta o.start o.reports o.places c.in-Some.ensures.distinct c.in-Some.ensures.index call c.at-call.ensures
    c.self.invariant new letters (sym c.is_reading.ensures.value ∙ c.if-not-is_reading.false) c.is_reading.ensures.named
    c.is_reading.ensures.waiting (lt-ltb call.phase.position o.start (omega (arith, position, c.if-position-self.false)))
    (subst (λ n. IsReadLater o.places o.calls call c.in-Some.index (2 * (o.start - n)) o.start new letters) position
    (c.in_ok-letters.ensures.read call c.at-call.ensures)))
