use Rattle.processes.proofs.SessionLawLemmas as session
use Rattle.processes.proofs.laws.stopped_sessions_are_events.Goals as goal

pub returns : goal.returns
returns c = session.stopped_sessions_are_events
