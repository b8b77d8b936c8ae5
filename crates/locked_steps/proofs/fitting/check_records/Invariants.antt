use Rattle.std.proofs.Common.{◌≡◌, ◌++◌, take}
use Rattle.std.specs.Prelude.{map}
use Rattle.locked_steps.specs.Closing.{AllStand, key_of}
use Rattle.locked_steps.proofs.fitting.check_records.Given as goal

abbrev pub invariant-loop-record : goal.invariant-loop-record
invariant-loop-record l = record {
  stand : AllStand l.cluster (take l.record-index l.records);
  keys : l.keys.items ≡ l.initial.keys.items ++ map key_of (take l.record-index l.records);
}
