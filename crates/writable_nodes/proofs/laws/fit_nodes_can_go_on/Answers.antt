use Rattle.writable_nodes.proofs.FailureLemmas.{step_fit}
use Rattle.writable_nodes.proofs.laws.fit_nodes_can_go_on.Goals as goal

pub returns : goal.returns
returns c = step_fit
