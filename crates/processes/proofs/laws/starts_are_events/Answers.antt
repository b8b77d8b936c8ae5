use Rattle.processes.proofs.ProgramLemmas as program
use Rattle.processes.proofs.laws.starts_are_events.Goals as goal

pub returns : goal.returns
returns c = program.starts_are_events c.left_logs_are_read.ensures
