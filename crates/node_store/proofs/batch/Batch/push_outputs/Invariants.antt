-- The outputs so far were added.
use Rattle.std.proofs.Common.{take}
use Rattle.node_store.specs.Outputs.{Gathers}
use Rattle.node_store.proofs.batch.Batch.push_outputs.Given as goal

abbrev pub invariant-loop-output : goal.invariant-loop-output
invariant-loop-output l = Gathers l.fn.self l.self (take l.output-index l.outputs)
