use Rattle.std.proofs.Common.{◌≡◌, take}
use Rattle.locked_steps.specs.Closing.{all_records, receipts_of}
use Rattle.locked_steps.proofs.fitting.receipts.Given as goal

abbrev pub invariant-loop-seat : goal.invariant-loop-seat
invariant-loop-seat g l = l.total ≡ receipts_of (all_records (take l.seat-index l.seats))
