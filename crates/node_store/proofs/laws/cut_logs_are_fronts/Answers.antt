use Rattle.node_store.proofs.CutLogLemmas.{cut_log}
use Rattle.node_store.proofs.laws.cut_logs_are_fronts.Goals as goal

pub returns : goal.returns
returns c = cut_log c.entries_are_read_back.ensures.cut
