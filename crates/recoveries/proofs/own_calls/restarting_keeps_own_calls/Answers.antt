use Rattle.recoveries.proofs.OwnCallLemmas.{restarted_own_calls}
use Rattle.recoveries.proofs.own_calls.restarting_keeps_own_calls.Goals as goal

pub returns : goal.returns
returns c = restarted_own_calls
