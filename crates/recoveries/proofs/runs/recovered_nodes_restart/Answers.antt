use Rattle.recoveries.proofs.RunLemmas.{recovered_restarted}
use Rattle.recoveries.proofs.runs.recovered_nodes_restart.Goals as goal

pub returns : goal.returns
returns c = recovered_restarted
