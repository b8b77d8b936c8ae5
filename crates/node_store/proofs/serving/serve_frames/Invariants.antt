-- The frames so far were handled, what the machine wanted done for them is done, and the log is as long as is said.
-- No sync of it failed, and no other call since the loop began.
use Rattle.std.proofs.Common.{◌≡◌, [], true, Ok}
use Rattle.std.specs.Prelude.{IsTrue}
use Rattle.std.specs.Io.Buffered.{reader_remaining}
use Rattle.node_store.specs.Outputs.{HasGathered}
use Rattle.node_store.specs.Rewriting.{HasLengthened}
use Rattle.node_store.specs.Rounds.{ComesToRound}
use Rattle.node_store.specs.Serving.{ServesSome}
use Rattle.node_store.proofs.serving.serve_frames.Given as goal

abbrev pub invariant-loop : goal.invariant-loop
invariant-loop g l = ServesSome g.M.Machine.handles g.M.Machine.notes l.fn.end.chain.state l.batch.chain.state l.fn.machine
    l.machine (reader_remaining g.I.Read.remaining l.fn.input) (reader_remaining g.I.Read.remaining l.input)
    (g.L.Log.kept l.fn.log) (g.L.Log.kept l.log) (g.O.Write.contents l.fn.output) (g.O.Write.contents l.output) (Ok true)
    × (g.L.Log.kept l.log ≡ g.L.Log.written l.log) × HasGathered l.batch.chain.state l.batch []
    × ComesToRound g.M.Machine.handles g.M.Machine.notes
    (record {
      length = l.fn.end.length;
      chain = l.fn.end.chain.state;
      machine = l.fn.machine;
      left = reader_remaining g.I.Read.remaining l.fn.input;
      kept = g.L.Log.kept l.fn.log;
      held = g.O.Write.contents l.fn.output;
    })
    (record {
      length = l.length;
      chain = l.batch.chain.state;
      machine = l.machine;
      left = reader_remaining g.I.Read.remaining l.input;
      kept = g.L.Log.kept l.log;
      held = g.O.Write.contents l.output;
    })
    × HasLengthened (g.L.Log.kept l.fn.log) (g.L.Log.kept l.log) l.fn.end.length l.length
    × IsTrue (g.L.Log.sound l.log) × (g.L.Log.failed l.log ≡ g.L.Log.failed l.fn.log)
