use Rattle.recoveries.proofs.OwnCallLemmas.{new_own_calls}
use Rattle.recoveries.proofs.own_calls.new_nodes_have_own_calls.Goals as goal

pub returns : goal.returns
returns c = new_own_calls
