use Rattle.processes.proofs.ProcessLawLemmas.{keep_values}
use Rattle.processes.proofs.laws.processes_keep_values.Goals as goal

pub returns : goal.returns
returns c = keep_values c.left_logs_are_read.ensures
