-- The frames so far were handled, and what is left is no more than there was.
use Rattle.std.proofs.Common.{◌≤◌, true, Ok, Some, length}
use Rattle.node_store.specs.Serving.{HandlesArrived}
use Rattle.node_store.proofs.gathering.take_more.Given as goal

abbrev pub invariant-loop : goal.invariant-loop
invariant-loop g l =
    HandlesArrived g.M.Machine.handles g.M.Machine.notes l.fn.machine l.machine (Some l.fn.left.now) (Some l.left.now)
    l.fn.batch l.batch (Ok true)
    × (length l.left.now ≤ length l.fn.left.now)
