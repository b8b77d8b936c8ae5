use Rattle.node.proofs.PeerLemmas.{told_once}
use Rattle.node.proofs.laws.others_are_told_once.Goals as goal

pub returns : goal.returns
returns c = told_once
