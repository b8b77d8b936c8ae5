use Rattle.node_core.proofs.StartLemmas.{are_stopped}
use Rattle.node_core.proofs.laws.cut_off_starts_are_stopped.Goals as goal

pub returns : goal.returns
returns c = are_stopped
