use Rattle.std.proofs.Common.{◌≡◌, map}
use Rattle.std.specs.List.{range_with_len}
use Rattle.cluster.specs.Accounts.{server_bytes}
use Rattle.cluster.proofs.cluster.Cluster.accounts.Given as goal

abbrev pub invariant-loop-server : goal.invariant-loop-server
invariant-loop-server l = l.servers.items ≡ map (server_bytes l.self) (range_with_len 0 l.server)
