use Rattle.recoveries.proofs.OwnHandledLemmas.{handled_own}
use Rattle.recoveries.proofs.rewritten.handling_keeps_own.Goals as goal

pub returns : goal.returns
returns c = handled_own
