use Rattle.node.proofs.IdsLeftLemmas as left
use Rattle.node.proofs.laws.ids_are_left.Goals as goal

pub returns : goal.returns
returns c = left.ids_are_left
