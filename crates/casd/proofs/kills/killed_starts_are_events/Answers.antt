use Rattle.casd.proofs.KillLemmas.{start_leaves}
use Rattle.casd.proofs.kills.killed_starts_are_events.Goals as goal

pub returns : goal.returns
returns g c =
    start_leaves c.starts_are_events.ensures c.stopped_starts_are_events.ensures _ _ _ _ _ c.start_with.result
    c.start_with.ensures.starts c.start_with.ensures.fails
