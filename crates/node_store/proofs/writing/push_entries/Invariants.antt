-- The entries so far were appended, and the chain is the one behind them.
use Rattle.std.proofs.Common.{◌≡◌, ◌++◌, take}
use Rattle.node_log.specs.Entry.{chain_behind}
use Rattle.node_store.specs.Recovery.{log_bytes}
use Rattle.node_store.proofs.writing.push_entries.Given as goal

abbrev pub invariant-loop-entry : goal.invariant-loop-entry
invariant-loop-entry l =
    (l.bytes ≡ l.fn.bytes ++ log_bytes l.fn.chain.state (take l.entry-index l.entries))
    × (l.chain.state ≡ chain_behind l.fn.chain.state (take l.entry-index l.entries))
