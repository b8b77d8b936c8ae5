use Rattle.std.proofs.Common.{◌≡◌, ◌+◌, ◌≤◌}
use Rattle.std.specs.Prelude.{vec_len, vec_capacity}
use Rattle.locked_steps.specs.Seats.{new_seats}
use Rattle.locked_steps.proofs.opening.open_in.Given as goal

abbrev pub invariant-loop-number : goal.invariant-loop-number
invariant-loop-number g l = record {
  parts : l.own.parts + l.number ≡ l.seats + 1;
  amount : l.own.amount ≡ 0;
  items : l.list.items ≡ new_seats l.number;
  len : vec_len l.list ≡ l.number;
  room : l.seats ≤ vec_capacity l.list;
}
