-- The frames so far were added.
use Rattle.std.proofs.Common.{take}
use Rattle.node_effects.specs.Work.{send_all}
use Rattle.node_store.specs.Outputs.{Gathers}
use Rattle.node_store.proofs.batch.Batch.push_frames.Given as goal

abbrev pub invariant-loop-frame : goal.invariant-loop-frame
invariant-loop-frame l = Gathers l.fn.self l.self (send_all (take l.frame-index l.frames))
