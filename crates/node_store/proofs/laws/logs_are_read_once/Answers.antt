use Rattle.node_store.proofs.CutLogLemmas.{one_log}
use Rattle.node_store.proofs.laws.logs_are_read_once.Goals as goal

pub returns : goal.returns
returns c = one_log c.entries_are_read_back.ensures.one
