use Rattle.deeds.proofs.HandledLemmas.{events_handled}
use Rattle.deeds.proofs.handled.events_are_handled.Goals as goal

pub returns : goal.returns
returns c = events_handled
