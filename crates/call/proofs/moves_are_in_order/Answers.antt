use Rattle.record.proofs.Phases.WholeCallLemmas
use Rattle.call.proofs.MoveStageLemmas
use Rattle.call.proofs.moves_are_in_order.Goals as goal

pub returns : goal.returns
returns c = MoveStageLemmas.moves_are_in_order WholeCallLemmas.finished_are_whole
