use Rattle.processes.proofs.OpenMoveLawLemmas.{logs_have}
use Rattle.processes.proofs.laws.logs_have_distinct_moves.Goals as goal

pub returns : goal.returns
returns c = logs_have c.left_logs_are_read.ensures
