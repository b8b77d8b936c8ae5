use Rattle.deeds.proofs.HandledLemmas.{resent_handled}
use Rattle.deeds.proofs.handled.resent_is_handled.Goals as goal

pub returns : goal.returns
returns c = resent_handled
