use Rattle.std.proofs.Common.{◌≡◌, length}
use Rattle.cluster.specs.Cluster.{all_up}
use Rattle.cluster.proofs.servers.Servers.new.Given as goal

abbrev pub invariant-loop : goal.invariant-loop
invariant-loop l = record { made : l.up.items ≡ all_up l.counter; len : length l.up.items ≡ l.counter }
