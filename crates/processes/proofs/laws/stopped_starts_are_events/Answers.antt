use Rattle.processes.proofs.StoppedStartLemmas as stopped
use Rattle.processes.proofs.laws.stopped_starts_are_events.Goals as goal

pub returns : goal.returns
returns c = stopped.stopped_starts_are_events c.left_logs_are_read.ensures
