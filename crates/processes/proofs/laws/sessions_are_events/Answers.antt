use Rattle.processes.proofs.SessionLawLemmas as session
use Rattle.processes.proofs.laws.sessions_are_events.Goals as goal

pub returns : goal.returns
returns c = session.sessions_are_events
