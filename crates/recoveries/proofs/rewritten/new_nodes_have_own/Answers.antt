use Rattle.recoveries.proofs.OwnObjectLemmas.{new_own}
use Rattle.recoveries.proofs.rewritten.new_nodes_have_own.Goals as goal

pub returns : goal.returns
returns c = new_own
