use Rattle.processes.proofs.RoundLawLemmas as round
use Rattle.processes.proofs.laws.stops_are_events.Goals as goal

pub returns : goal.returns
returns c = round.stops_are_events
