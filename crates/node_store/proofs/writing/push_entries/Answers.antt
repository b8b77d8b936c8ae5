use Rattle.node_store.proofs.LogBytesLemmas.{entry_pushed}
use Rattle.node_store.proofs.writing.push_entries.Goals as goal

pub loop-entry-preserved : goal.loop-entry-preserved
loop-entry-preserved c =
    entry_pushed c.args.chain.now.state c.loop-entry.chain.state c.pass.new.self.state c.args.bytes.now
    c.loop-entry.bytes c.push_entry.new.bytes c.args.entries.now c.loop-entry.entry-index c.entry-item.result
    c.entry-item.result c.loop-entry-test.true c.entry-item.is c.in_ok-push_entry.ensures c.pass.ensures c.loop-entry.invariant
