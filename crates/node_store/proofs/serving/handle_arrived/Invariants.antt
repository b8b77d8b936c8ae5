-- The frames so far were handled.
use Rattle.std.proofs.Common.{true, Ok}
use Rattle.std.specs.Io.Buffered.{reader_remaining}
use Rattle.node_store.specs.Serving.{HandlesArrived}
use Rattle.node_store.proofs.serving.handle_arrived.Given as goal

abbrev pub invariant-loop : goal.invariant-loop
invariant-loop g l = HandlesArrived g.M.Machine.handles g.M.Machine.notes l.fn.machine l.machine
    (reader_remaining g.I.Read.remaining l.fn.input) (reader_remaining g.I.Read.remaining l.input) l.fn.batch l.batch (Ok true)
