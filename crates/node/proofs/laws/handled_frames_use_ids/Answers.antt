use Rattle.node.proofs.IdsLeftLemmas as left
use Rattle.node.proofs.laws.handled_frames_use_ids.Goals as goal

pub returns : goal.returns
returns c = left.handled_use
