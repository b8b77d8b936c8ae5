use Rattle.recoveries.proofs.StopLemmas.{stopped_restarted}
use Rattle.recoveries.proofs.stops.stopped_nodes_restart.Goals as goal

pub returns : goal.returns
returns c = stopped_restarted
