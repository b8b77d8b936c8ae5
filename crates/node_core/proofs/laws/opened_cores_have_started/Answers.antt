use Rattle.node_core.proofs.StartLemmas.{have_started}
use Rattle.node_core.proofs.laws.opened_cores_have_started.Goals as goal

pub returns : goal.returns
returns c = have_started
