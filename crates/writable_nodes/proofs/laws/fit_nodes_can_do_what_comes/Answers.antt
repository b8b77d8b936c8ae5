use Rattle.writable_nodes.proofs.FailureLemmas.{arrival_fit}
use Rattle.writable_nodes.proofs.laws.fit_nodes_can_do_what_comes.Goals as goal

pub returns : goal.returns
returns c = arrival_fit
