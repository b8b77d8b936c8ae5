-- The folded bytes stand for a state that leads, by what is left, to the state after all bytes.
use Rattle.std.proofs.Common.{◌≡◌, ◌≤◌, ℕ, length}
use Rattle.node_log.specs.Crc32c.{after_bytes}
use Rattle.node_log.specs.Folding.{StandsAt}
use Rattle.node_log.proofs.folding.after_many.Given as goal

abbrev pub invariant-loop-rest : goal.invariant-loop-rest
invariant-loop-rest l =
    (437 ≤ length l.rest)
    × (state : ℕ)
    × StandsAt state 0 l.folded
    × (after_bytes l.fn.state l.fn.bytes ≡ after_bytes state l.rest)

abbrev pub decreases-loop-rest : goal.decreases-loop-rest
decreases-loop-rest l = length l.rest
