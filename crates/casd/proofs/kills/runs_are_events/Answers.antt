use Rattle.casd.proofs.KilledRunLemmas.{run_events}
use Rattle.casd.proofs.kills.runs_are_events.Goals as goal

pub returns : goal.returns
returns c = λ processes reached number bytes found kept held node keeps holds result may run.
    run_events c.starts_are_events.ensures c.stopped_starts_are_events.ensures c.sessions_are_events.ensures
    c.stopped_sessions_are_events.ensures c.unexchanged_sessions_are_events.ensures _ node found kept bytes held node keeps
    holds processes reached number may result run
