use Rattle.recoveries.proofs.OwnCallLemmas.{handled_own_calls}
use Rattle.recoveries.proofs.own_calls.handling_keeps_own_calls.Goals as goal

pub returns : goal.returns
returns c = handled_own_calls
