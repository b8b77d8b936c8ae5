-- The silences so far are those after the tick, and the others are as they were.
use Rattle.std.proofs.Common.{◌≡◌, ◌++◌, take, drop, length}
use Rattle.node.specs.Peers.{silences_after}
use Rattle.node.proofs.silences.count_tick.Given as goal

abbrev pub invariant-loop-node : goal.invariant-loop-node
invariant-loop-node l =
    (l.silences ≡ silences_after l.heard 0 (take l.node l.fn.silences) ++ drop l.node l.fn.silences)
    × (length l.silences ≡ length l.fn.silences)
