use Rattle.processes.proofs.ProcessLawLemmas.{have_clusters}
use Rattle.processes.proofs.laws.processes_have_clusters.Goals as goal

pub returns : goal.returns
returns c = have_clusters c.left_logs_are_read.ensures
