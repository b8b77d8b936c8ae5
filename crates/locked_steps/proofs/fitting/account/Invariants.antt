use Rattle.std.proofs.Common.{◌≡◌, ◌+◌, length}
use Rattle.std.specs.Prelude.{vec_len}
use Rattle.locked_steps.specs.Closing.{all_records}
use Rattle.locked_steps.proofs.fitting.account.Given as goal

abbrev pub invariant-loop-seat : goal.invariant-loop-seat
invariant-loop-seat g l = record {
  parts : l.own.parts + vec_len l.seats ≡ g.L.Ledger.parts;
  amount : l.own.amount + length (all_records l.seats.items) ≡ length (all_records l.initial.seats.items);
  total : l.book.total ≡ l.initial.book.total;
}

abbrev pub decreases-loop-seat : goal.decreases-loop-seat
decreases-loop-seat g l = vec_len l.seats
