use Rattle.recoveries.proofs.OwnRecoveredLemmas.{recovered_own}
use Rattle.recoveries.proofs.rewritten.recovering_keeps_own.Goals as goal

pub returns : goal.returns
returns c = recovered_own
