use Rattle.deeds.proofs.HandledLemmas.{both_handled}
use Rattle.deeds.proofs.handled.two_are_one.Goals as goal

pub returns : goal.returns
returns c = both_handled
