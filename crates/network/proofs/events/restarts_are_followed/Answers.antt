use Rattle.network.proofs.RestartedNodeLemmas.{restart_followed}
use Rattle.network.proofs.events.restarts_are_followed.Goals as goal

pub returns : goal.returns
returns c = restart_followed
