use Rattle.std.proofs.Common.{rules, ◌≡◌, ◌<◌, suc, false, List, ℕ, Option, Some, None, refl, ap, ◌∙◌, arith}
use Rattle.std.specs.Prelude.{is_some, vec_len, vec_capacity}
use Rattle.std.specs.String.{string_bytes}
use Rattle.std.proofs.lemmas.Grind.{common_steps}
use Rattle.locked_steps.specs.Seats.{SeatState, pending_of}
use Rattle.locked_steps.specs.declared.call_record.CallRecord.{CallRecord}
use Rattle.locked_steps.proofs.RecordOrderLemmas.{rising_begun, length_begun}
use Rattle.locked_steps.proofs.begin.begin_in.Goals as goal

none_pending : (name : List ℕ) (pending : Option CallRecord) → pending_of name pending ≡ None → is_some pending ≡ false
none_pending name None h = refl
none_pending name (Some r) h = absurd (cc (h))

pub invariant_of-seat-2 : goal.invariant_of-seat-2
invariant_of-seat-2 g c =
    let h = c.seat.invariant in
    let r = c.in_ok-record.record in
    let begun = c.in_ok-record.ensures.begun in
    let name = string_bytes c.seat.inside.name in
    let none = none_pending name c.seat.inside.pending (ap (λ (s : SeatState). s.pending) c.seat.view_is ∙ c.in_ok-object.ensures.free) in
    let same = c.make_room_for.ensures.same in
    let n = length_begun name c.seat.inside.records.items c.make_room_for.new.records.items c.seat.inside.pending r same none in
    let floor : r.floor ≡ c.seat.inside.floor = ap (λ (x : CallRecord). x.floor) begun in
    let at : r.called ≡ suc c.booked.inside.cluster.counter = ap (λ (x : CallRecord). x.called) begun in
    let seen = ap (λ (s : SeatState). s.floor) c.seat.view_is in
    let called : c.seat.inside.floor < r.called = omega (arith, at, seen, c.in_ok-object.ensures.floor) in
    let unanswered : r.receipt ≡ None = ap (λ (x : CallRecord). x.receipt) begun in
    let room : vec_len c.make_room_for.new.records < vec_capacity c.make_room_for.new.records = c.in_ok-make_room_for.ensures.room in
    rw (c.keep.ensures) (
      omega (arith, c.add.ensures.parts, h.0),
      omega (arith, c.add.ensures.amount, h.1, n),
      rising_begun name _ _ c.seat.inside.pending _ r same none h.2 floor called unanswered,
      unanswered,
      omega (arith, room),
    )

pub invariant_of-booked : goal.invariant_of-booked
invariant_of-booked g c = grind (arith, common_steps)

pub invariant_of-booked-2 : goal.invariant_of-booked-2
invariant_of-booked-2 g c = grind (arith, common_steps)

pub returns-in_err-object-clause-state : goal.returns-in_err-object-clause-state
returns-in_err-object-clause-state g c = search rules
