use Rattle.network.proofs.RestartedNodeLemmas.{give_up_followed}
use Rattle.network.proofs.events.given_up_calls_are_followed.Goals as goal

pub returns : goal.returns
returns c = give_up_followed
