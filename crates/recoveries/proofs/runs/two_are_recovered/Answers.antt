use Rattle.recoveries.proofs.RecoveredLemmas.{two_recovered}
use Rattle.recoveries.proofs.runs.two_are_recovered.Goals as goal

pub returns : goal.returns
returns c = two_recovered
