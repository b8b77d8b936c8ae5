use Rattle.std.proofs.Common.{◌≡◌, take}
use Rattle.std.specs.Prelude.{map}
use Rattle.std.specs.List.{AllByRecursion}
use Rattle.locked_steps.specs.Seats.{IsRising, records_of}
use Rattle.locked_steps.specs.Closing.{AllStand, all_records, key_of}
use Rattle.locked_steps.proofs.fitting.fit.Given as goal

abbrev pub invariant-loop-seat : goal.invariant-loop-seat
invariant-loop-seat g l = record {
  stand : AllStand l.cluster (all_records (take l.seat-index l.seats));
  keys : l.keys.items ≡ map key_of (all_records (take l.seat-index l.seats));
  order : AllByRecursion (λ s. IsRising 0 (records_of s) s.floor) (take l.seat-index l.seats);
}
