use Rattle.processes.proofs.RoundLawLemmas as round
use Rattle.processes.proofs.laws.rounds_are_events.Goals as goal

pub returns : goal.returns
returns c = round.rounds_are_events
