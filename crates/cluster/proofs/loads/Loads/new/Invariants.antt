use Rattle.std.proofs.Common.{◌≡◌, length}
use Rattle.cluster.specs.Summed.{all_none}
use Rattle.cluster.proofs.loads.Loads.new.Given as goal

abbrev pub invariant-loop : goal.invariant-loop
invariant-loop l = record { made : l.bytes.items ≡ all_none l.counter; len : length l.bytes.items ≡ l.counter }
