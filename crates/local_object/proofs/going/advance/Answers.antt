use Rattle.std.proofs.Common.{◌≡◌, suc, false, ◌+◌, ◌^◌, map, slice_set, refl, sym, subst, ap, ◌∙◌, arith}
use Rattle.std.proofs.lemmas.Bool.{lt-ltb}
use Rattle.encoder.specs.Fragment.{fragment}
use Rattle.layout.specs.Layout.{Layout}
use Rattle.mail.specs.Phase.{Phase}
use Rattle.record.specs.Sending.{fragment_piece, requests}
use Rattle.call.specs.Call.{OpenCall as Machine}
use Rattle.call.specs.Steps.{entered, phase_next}
use Rattle.local_object.specs.Coding.{call_value}
use Rattle.local_object.specs.Going.{IsAdvancedIf}
use Rattle.local_object.specs.Letters.{letter_in}
use Rattle.local_object.specs.Local.{layout_in, heard_place}
use Rattle.local_object.specs.Taking.{can_begin}
use Rattle.local_object.proofs.AdvanceLemmas.{begin_can, begin_long, begin_unknown, begin_unnamed, begin_unnumbered, is_advanced}
use Rattle.local_object.proofs.AdvanceLemmas.{not_advanced}
use Rattle.local_object.proofs.CarriedCallLemmas.{same_call}
use Rattle.local_object.proofs.going.advance.Goals as goal

pub returns-in_default-clause-advanced : goal.returns-in_default-clause-advanced
returns-in_default-clause-advanced c = λ call at.
    let places = c.args.places.now in
    not_advanced places call c.args.kind c.args.position c.args.start c.args.calls.now c.args.calls.now c.args.index c.new.result.items
    (begin_unknown places call c.args.kind c.args.position
    (sym (c.in_default.ensures ∙ ap (λ n. layout_in (heard_place places n)) c.from.ensures))) refl c.new.ensures.items

pub returns-then-number-ge4294967295-clause-advanced : goal.returns-then-number-ge4294967295-clause-advanced
returns-then-number-ge4294967295-clause-advanced c = λ call at.
    let places = c.args.places.now in
    let calls = c.args.calls.now in
    let read = c.at-call.result.now in
    let items = c.new-then-number-ge4294967295.result.items in
    subst (λ (m : Machine). IsAdvancedIf (can_begin places m c.args.kind c.args.position) places c.args.start calls m
    c.args.index c.args.kind c.args.position calls items) (same_call read call (sym c.at-call.ensures ∙ at))
    (not_advanced places read c.args.kind c.args.position c.args.start calls calls c.args.index items
    (begin_unnumbered places read c.args.kind c.args.position c.number-number.result
    (c.number-number.ensures ∙ ap (λ (p : Phase). p.number) c.phase.ensures.value) c.if-number-ge4294967295.true)
    refl c.new-then-number-ge4294967295.ensures.items)

pub returns-then-not-is_sendable-clause-advanced : goal.returns-then-not-is_sendable-clause-advanced
returns-then-not-is_sendable-clause-advanced c = λ call at.
    let places = c.args.places.now in
    let calls = c.args.calls.now in
    let read = c.at-call.result.now in
    let items = c.new-then-not-is_sendable.result.items in
    subst (λ (m : Machine). IsAdvancedIf (can_begin places m c.args.kind c.args.position) places c.args.start calls m
    c.args.index c.args.kind c.args.position calls items) (same_call read call (sym c.at-call.ensures ∙ at))
    (not_advanced places read c.args.kind c.args.position c.args.start calls calls c.args.index items
    (begin_long places read c.args.kind c.args.position (sym c.is_sendable.ensures ∙ c.if-not-is_sendable.true))
    refl c.new-then-not-is_sendable.ensures.items)

pub returns-then-not-knows_next-clause-advanced : goal.returns-then-not-knows_next-clause-advanced
returns-then-not-knows_next-clause-advanced c = λ call at.
    let places = c.args.places.now in
    let calls = c.args.calls.now in
    let read = c.at-call.result.now in
    let items = c.new-then-not-knows_next.result.items in
    subst (λ (m : Machine). IsAdvancedIf (can_begin places m c.args.kind c.args.position) places c.args.start calls m
    c.args.index c.args.kind c.args.position calls items) (same_call read call (sym c.at-call.ensures ∙ at))
    (not_advanced places read c.args.kind c.args.position c.args.start calls calls c.args.index items
    (begin_unnamed places read c.args.kind c.args.position (sym c.is_sendable.ensures ∙ c.if-not-is_sendable.false)
    (sym c.knows_next.ensures ∙ c.if-not-knows_next.true))
    refl c.new-then-not-knows_next.ensures.items)

pub returns-clause-advanced : goal.returns-clause-advanced
returns-clause-advanced c = λ call at.
    let places = c.args.places.now in
    let calls = c.args.calls.now in
    let read = c.at-call.result.now in
    let kind = c.args.kind in
    let position = c.args.position in
    let layout = c.in-Some.layout.now in
    let items = c.in_ok-letters.letters.items in
    let new = c.begin_next.new.self in
    let number = c.number-number.ensures ∙ ap (λ (p : Phase). p.number) c.phase.ensures.value in
    let next : c.number-number.result + 1 ≡ suc read.phase.number = omega (arith, number) in
    let known = sym (c.in-Some.ensures ∙ ap (λ n. layout_in (heard_place places n)) c.from.ensures) in
    subst (λ (m : Machine). IsAdvancedIf (can_begin places m kind position) places c.args.start calls m c.args.index kind position new
    items)
    (same_call read call (sym c.at-call.ensures ∙ at))
    (is_advanced places read kind position c.args.start calls new c.args.index items
    (begin_can places read kind position layout known
    (lt-ltb (read.phase.number + 1) (2 ^ 32) (omega (arith, number, c.if-number-ge4294967295.false)))
    (sym c.is_sendable.ensures ∙ c.if-not-is_sendable.false) (sym c.knows_next.ensures ∙ c.if-not-knows_next.false))
    (record {
      layout = layout;
      known = known;
      calls = c.in_ok-begin_next.ensures.begun read c.at-call.ensures
          ∙ ap (λ (l : Layout). slice_set calls c.args.index (entered read (phase_next read kind position l 0))) c.layout-2.ensures;
      sent = c.in_ok-letters.ensures.letters
          ∙ ap (map (letter_in places c.args.start false layout))
          (c.in_ok-messages.ensures.requests
          ∙ ap (λ (l : Layout). requests c.id.result (c.number-number.result + 1) kind position l.members 0
          (fragment_piece fragment l (call_value read))) c.layout.ensures
          ∙ ap (λ id. requests id (c.number-number.result + 1) kind position layout.members 0
          (fragment_piece fragment layout (call_value read))) c.id.ensures
          ∙ ap (λ n. requests read.id n kind position layout.members 0 (fragment_piece fragment layout (call_value read))) next);
    }))
