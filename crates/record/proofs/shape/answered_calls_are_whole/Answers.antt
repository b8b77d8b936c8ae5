use Rattle.record.proofs.Phases.WholeCallLemmas.{answered_are_whole}
use Rattle.record.proofs.shape.answered_calls_are_whole.Goals as goal

pub returns : goal.returns
returns c = answered_are_whole
