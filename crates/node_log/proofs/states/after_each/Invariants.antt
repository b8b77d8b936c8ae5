-- The state after the bytes so far.
use Rattle.std.proofs.Common.{◌≡◌, take}
use Rattle.node_log.specs.Crc32c.{after_bytes}
use Rattle.node_log.proofs.states.after_each.Given as goal

abbrev pub invariant-loop-byte : goal.invariant-loop-byte
invariant-loop-byte l = l.state ≡ after_bytes l.fn.state (take l.byte-index l.bytes)
