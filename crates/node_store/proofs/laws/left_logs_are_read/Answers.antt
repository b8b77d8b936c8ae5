use Rattle.node_store.proofs.LeftLogLemmas.{left_read}
use Rattle.node_store.proofs.laws.left_logs_are_read.Goals as goal

pub returns : goal.returns
returns c = left_read c.cut_logs_are_fronts.ensures c.logs_are_read_once.ensures
