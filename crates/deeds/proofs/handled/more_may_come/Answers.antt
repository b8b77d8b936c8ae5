use Rattle.deeds.proofs.HandledLemmas.{more_handled}
use Rattle.deeds.proofs.handled.more_may_come.Goals as goal

pub returns : goal.returns
returns c = more_handled
