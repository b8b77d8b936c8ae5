use Rattle.std.proofs.Common.{sym, ap, ◌∙◌}
use Rattle.std.specs.String.{string_bytes}
use Rattle.locked_steps.specs.Closing.{receipts_of}
use Rattle.locked_steps.specs.Seats.{SeatState, pending_of, records_of}
use Rattle.locked_steps.proofs.SeatRecordLemmas.{receipts_alone}
use Rattle.locked_steps.proofs.fitting.receipts_in.Goals as goal

pub returns : goal.returns
returns g c =
    c.answered_in.ensures ∙ ap receipts_of c.as_slice.ensures.value
    ∙ sym (receipts_alone c.seat.inside.records.items (pending_of (string_bytes c.seat.inside.name) c.seat.inside.pending)
    c.seat.invariant.3)
    ∙ ap (λ (s : SeatState). receipts_of (records_of s)) c.seat.view_is
