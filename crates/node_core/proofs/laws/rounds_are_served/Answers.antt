use Rattle.node_core.proofs.RoundLemmas.{served}
use Rattle.node_core.proofs.laws.rounds_are_served.Goals as goal

pub returns : goal.returns
returns c = served c.steps_keep_order.ensures.all
