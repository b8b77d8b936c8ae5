use Rattle.processes.proofs.ProcessLawLemmas.{are_atomic}
use Rattle.processes.proofs.laws.processes_are_atomic.Goals as goal

pub returns : goal.returns
returns c = are_atomic c.left_logs_are_read.ensures
