use Rattle.node_core.proofs.RoundLemmas.{cut_off}
use Rattle.node_core.proofs.laws.cut_off_rounds_stop_early.Goals as goal

pub returns : goal.returns
returns c = cut_off c.steps_keep_order.ensures.cut
