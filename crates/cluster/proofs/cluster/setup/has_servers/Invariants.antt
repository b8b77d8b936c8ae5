use Rattle.std.proofs.Common.{◌≡◌, nat_lt, take, true}
use Rattle.std.specs.List.{list_all}
use Rattle.cluster.proofs.cluster.setup.has_servers.Given as goal

abbrev pub invariant-loop-member : goal.invariant-loop-member
invariant-loop-member l = list_all (λ m. nat_lt m l.servers) (take l.member l.layout.members) ≡ true
