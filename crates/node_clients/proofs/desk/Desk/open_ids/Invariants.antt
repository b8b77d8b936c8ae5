use Rattle.std.proofs.Common.{◌≡◌}
use Rattle.node_clients.proofs.desk.Desk.open_ids.Given as goal

-- the ids that were given so far
abbrev pub invariant-loop-id : goal.invariant-loop-id
invariant-loop-id l = l.ids.items ≡ l.yielded
