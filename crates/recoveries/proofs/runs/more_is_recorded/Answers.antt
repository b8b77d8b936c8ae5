use Rattle.recoveries.proofs.RunLemmas.{more_recorded}
use Rattle.recoveries.proofs.runs.more_is_recorded.Goals as goal

pub returns : goal.returns
returns c = more_recorded
