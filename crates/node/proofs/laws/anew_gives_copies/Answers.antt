use Rattle.node.proofs.AnewCopyLemmas.{anew_copies}
use Rattle.node.proofs.laws.anew_gives_copies.Goals as goal

pub returns : goal.returns
returns c = anew_copies
