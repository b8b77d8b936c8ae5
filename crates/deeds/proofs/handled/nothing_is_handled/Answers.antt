use Rattle.deeds.proofs.HandledLemmas.{nothing_handled}
use Rattle.deeds.proofs.handled.nothing_is_handled.Goals as goal

pub returns : goal.returns
returns c = nothing_handled
