use Rattle.node_core.proofs.RoundLemmas.{failed}
use Rattle.node_core.proofs.laws.failed_rounds_stop_early.Goals as goal

pub returns : goal.returns
returns c = failed
