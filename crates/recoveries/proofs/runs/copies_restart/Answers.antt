use Rattle.recoveries.proofs.RunLemmas.{copies_restarted}
use Rattle.recoveries.proofs.runs.copies_restart.Goals as goal

pub returns : goal.returns
returns c = copies_restarted
