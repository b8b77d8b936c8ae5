use Rattle.recoveries.proofs.RunLemmas.{two_logged}
use Rattle.recoveries.proofs.runs.two_are_logged.Goals as goal

pub returns : goal.returns
returns c = two_logged
