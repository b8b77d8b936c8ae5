use Rattle.std.proofs.Common.{◌≡◌, ◌<◌, ◌+◌, length, get_or, List, ap, rules, arith}
use Rattle.locked_steps.specs.Closing.{receipts_of}
use Rattle.locked_steps.specs.Seats.{SeatState, records_of}
use Rattle.locked_steps.proofs.SeatRecordLemmas.{receipts_more, receipts_few}
use Rattle.locked_steps.proofs.fitting.receipts.Goals as goal

pub overflow_add-total : goal.overflow_add-total
overflow_add-total g c =
    let i = c.loop-seat.seat-index in
    let ss : List SeatState = c.args.seats.now in
    let s : SeatState = c.seat-item.result in
    let less : i < length ss = search rules in
    let is : s ≡ get_or ss i s = c.seat-item.is in
    let more = receipts_more ss i s less in
    let same = ap (λ (x : SeatState). receipts_of (records_of x)) is in
    let few = receipts_few ss (i + 1) in
    omega (arith, c.requires, c.loop-seat.invariant, c.receipts_in-total.ensures, more, same, few)

pub loop-seat-preserved : goal.loop-seat-preserved
loop-seat-preserved g c =
    let i = c.loop-seat.seat-index in
    let ss : List SeatState = c.args.seats.now in
    let s : SeatState = c.seat-item.result in
    let less : i < length ss = search rules in
    let is : s ≡ get_or ss i s = c.seat-item.is in
    let more = receipts_more ss i s less in
    let same = ap (λ (x : SeatState). receipts_of (records_of x)) is in
    omega (arith, c.loop-seat.invariant, c.receipts_in-total.ensures, more, same)
