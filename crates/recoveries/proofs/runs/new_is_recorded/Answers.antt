use Rattle.recoveries.proofs.RunLemmas.{new_recorded}
use Rattle.recoveries.proofs.runs.new_is_recorded.Goals as goal

pub returns : goal.returns
returns c = new_recorded
