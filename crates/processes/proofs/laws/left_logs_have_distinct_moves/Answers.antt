use Rattle.processes.proofs.OpenMoveLawLemmas.{left_logs_have}
use Rattle.processes.proofs.laws.left_logs_have_distinct_moves.Goals as goal

pub returns : goal.returns
returns c = left_logs_have c.left_logs_are_read.ensures
