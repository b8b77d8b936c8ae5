use Rattle.processes.proofs.ProgramLemmas as program
use Rattle.processes.proofs.laws.rewrites_are_events.Goals as goal

pub returns : goal.returns
returns c = program.rewrites_are_events
