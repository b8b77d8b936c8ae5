use Rattle.std.proofs.Common.{◌≡◌, ◌∙◌, ◌<◌, ◌++◌, length, take, get_or, sym, ap, rules, arith, false, Ok, List}
use Rattle.std.specs.Prelude.{map, IsTrue}
use Rattle.std.proofs.lemmas.Grind.{elements}
use Rattle.std.proofs.lemmas.List.{length-map, map-append, take_all}
use Rattle.locked_steps.specs.Closing.{AllStand, all_records, key_of}
use Rattle.locked_steps.specs.Seats.{SeatState, records_of}
use Rattle.locked_steps.proofs.SeatRecordLemmas.{all_records_more, all_seats_more, stand_at, all_append}
use Rattle.locked_steps.proofs.fitting.fit.Goals as goal

pub returns-then-not-branch-clause-fit : goal.returns-then-not-branch-clause-fit
returns-then-not-branch-clause-fit g c =
    let i = c.loop-seat.seat-index in
    let ss : List SeatState = c.args.seats.now in
    let s : SeatState = c.seat-item.result in
    let h = c.args.cluster.now in
    let less : i < length ss = search rules in
    let is : s ≡ get_or ss i s = c.seat-item.is in
    let not : AllStand h (records_of s) → IsTrue false = λ a. sym c.if-not-branch.true ∙ c.in_ok-check_seat.ensures.stand.1 a in
    ((λ x. absurd (cc (x))), λ f. not (rw is (stand_at h ss i s less f.stand)))

pub loop-seat-preserved : goal.loop-seat-preserved
loop-seat-preserved g c =
    let i = c.loop-seat.seat-index in
    let ss : List SeatState = c.args.seats.now in
    let s : SeatState = c.seat-item.result in
    let h = c.args.cluster.now in
    let less : i < length ss = search rules in
    let is : s ≡ get_or ss i s = c.seat-item.is in
    let more = all_records_more ss i s less in
    let mine : AllStand h (records_of s) = c.in_ok-check_seat.ensures.stand.0 c.if-not-branch.false in
    let keys : c.check_seat.new.keys.items ≡ c.loop-seat.keys.items ++ map key_of (records_of s) =
    c.in_ok-check_seat.ensures.keys (ap Ok c.if-not-branch.false) in
    record {
      stand = rw (more, ← is) (all_append _ _ _ c.loop-seat.invariant.stand mine);
      keys = rw (more, ← is, map-append, keys) (ap (λ l. l ++ map key_of (records_of s)) c.loop-seat.invariant.keys);
      order = all_seats_more _ ss i s less c.loop-seat.invariant.order (rw (← is) c.check_seat.ensures.order);
    }

pub returns-clause-few : goal.returns-clause-few
returns-clause-few g c = λ is.
    let ss : List SeatState = c.args.seats.now in
    let whole : take c.loop-seat.seat-index ss ≡ ss = take_all c.loop-seat.seat-index ss c.loop-seat-test.false in
    let keys = ap length (c.deref_mut.ensures.value ∙ c.loop-seat.invariant.keys) in
    let n = length-map (all_records (take c.loop-seat.seat-index ss)) key_of in
    let same = ap (λ (l : List SeatState). length (all_records l)) whole in
    omega (arith, c.deref_mut.type_inv.0, keys, n, same)

pub returns-clause-fit : goal.returns-clause-fit
returns-clause-fit g c = grind (arith, elements)

pub returns-clause-order : goal.returns-clause-order
returns-clause-order g c = grind (arith, elements)
