use Rattle.node_store.proofs.CutLogLemmas.{moved_log}
use Rattle.node_store.proofs.laws.moved_entries_stop_reading.Goals as goal

pub returns : goal.returns
returns c = moved_log c.moved_entries_are_noticed.ensures
