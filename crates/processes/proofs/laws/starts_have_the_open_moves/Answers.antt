use Rattle.processes.proofs.OpenMoveLawLemmas.{starts_have}
use Rattle.processes.proofs.laws.starts_have_the_open_moves.Goals as goal

pub returns : goal.returns
returns c = starts_have c.left_logs_are_read.ensures
