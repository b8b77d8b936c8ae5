use Rattle.node_core.proofs.RewritingLemmas.{renewals}
use Rattle.node_core.proofs.laws.exchanged_logs_are_renewals.Goals as goal

pub returns : goal.returns
returns c = renewals
