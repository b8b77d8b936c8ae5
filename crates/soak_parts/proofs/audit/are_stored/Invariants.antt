use Rattle.std.proofs.Common.{◌≡◌, ◌+◌, ◌<◌, ℕ}
use Rattle.record.specs.Accounts.{stored}
use Rattle.cluster.specs.Accounts as all
use Rattle.soak_parts.proofs.audit.are_stored.Given as goal

abbrev pub invariant-loop-server : goal.invariant-loop-server
invariant-loop-server l = (k : ℕ) → k < l.server → all.server_bytes l.cluster k ≡ stored l.one.object k + stored l.other.object k
