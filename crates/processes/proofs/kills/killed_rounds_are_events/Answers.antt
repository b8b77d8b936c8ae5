use Rattle.processes.proofs.KillLemmas.{rounds_leave}
use Rattle.processes.proofs.kills.killed_rounds_are_events.Goals as goal

pub returns : goal.returns
returns g c = rounds_leave _ _ _ _ _ c.serve_frames.result c.serve_frames.ensures.rounds
