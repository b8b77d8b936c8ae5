-- Of the entries so far, the bytes before the part that waits were written, and the chain is the one behind them.
use Rattle.std.proofs.Common.{◌≡◌, take}
use Rattle.std.specs.Prelude.{IsTrue}
use Rattle.node_log.specs.Entry.{chain_behind, first_chain}
use Rattle.node_store.specs.Recovery.{log_bytes}
use Rattle.node_store.proofs.RewritingLemmas.{AreWritten}
use Rattle.node_store.proofs.rewriting.write_entries.Given as goal

abbrev pub invariant-loop-entry : goal.invariant-loop-entry
invariant-loop-entry g l = AreWritten (g.L.Log.written l.fn.log) (g.L.Log.written l.log) l.part l.length
    (log_bytes first_chain (take l.entry-index l.entries))
    × (l.chain.state ≡ chain_behind first_chain (take l.entry-index l.entries)) × IsTrue (g.L.Log.sound l.log)
    × (g.L.Log.failed l.log ≡ g.L.Log.failed l.fn.log)
