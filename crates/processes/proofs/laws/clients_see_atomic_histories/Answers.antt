use Rattle.processes.proofs.SeenHistoryLemmas.{clients_see}
use Rattle.processes.proofs.laws.clients_see_atomic_histories.Goals as goal

pub returns : goal.returns
returns c = clients_see c.left_logs_are_read.ensures
