use Rattle.casd.proofs.KilledRunLemmas.{run_leaves}
use Rattle.casd.proofs.kills.killed_runs_are_events.Goals as goal

pub returns : goal.returns
returns g c =
    run_leaves c.starts_are_events.ensures c.stopped_starts_are_events.ensures c.sessions_are_events.ensures
    c.stopped_sessions_are_events.ensures c.unexchanged_sessions_are_events.ensures _ _ _ _ _ _ _ _ _
    c.start_and_serve.result c.start_and_serve.ensures.runs
