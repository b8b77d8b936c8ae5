-- The node has handled frames, and the log was perhaps written anew, as often as the loop went round. No
-- sync of the log failed, and no other call since the loop began.
use Rattle.std.proofs.Common.{◌≡◌, ℕ}
use Rattle.std.specs.Prelude.{IsTrue}
use Rattle.std.specs.Io.Buffered.{reader_remaining}
use Rattle.casd.proofs.SessionLemmas.{HasGoneOn, at}
use Rattle.casd.proofs.serving.serve.Given as goal

abbrev pub invariant-loop : goal.invariant-loop
invariant-loop g l =
    HasGoneOn
    (at l.fn.end l.fn.node (reader_remaining g.I.Read.remaining l.fn.input) (g.L.Log.kept l.fn.log)
    (g.O.Write.contents l.fn.output))
    (at l.end l.node (reader_remaining g.I.Read.remaining l.input) (g.L.Log.kept l.log)
    (g.O.Write.contents l.output))
    × (g.L.Log.kept l.log ≡ g.L.Log.written l.log) × IsTrue (g.L.Log.sound l.log)
    × (IsTrue (g.L.Log.failed l.log) → IsTrue (g.L.Log.failed l.fn.log))
