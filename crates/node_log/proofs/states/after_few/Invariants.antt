-- What is left leads from the state so far to the state after all bytes.
use Rattle.std.proofs.Common.{◌≡◌, length}
use Rattle.node_log.specs.Crc32c.{after_bytes}
use Rattle.node_log.proofs.states.after_few.Given as goal

abbrev pub invariant-loop-first : goal.invariant-loop-first
invariant-loop-first l = after_bytes l.fn.state l.fn.bytes ≡ after_bytes l.state l.rest

abbrev pub decreases-loop-first : goal.decreases-loop-first
decreases-loop-first l = length l.rest
