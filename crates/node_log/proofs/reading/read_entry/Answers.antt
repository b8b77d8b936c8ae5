use Rattle.node_log.proofs.ReadEntryLemmas.{reads_this}
use Rattle.node_log.proofs.reading.read_entry.Goals as goal

pub returns-clause-only : goal.returns-clause-only
returns-clause-only g c = reads_this c.args.chain.state _ _ c.read_next.result c.read_next.ensures
