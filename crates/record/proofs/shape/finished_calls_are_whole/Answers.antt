use Rattle.record.proofs.Phases.WholeCallLemmas.{finished_are_whole}
use Rattle.record.proofs.shape.finished_calls_are_whole.Goals as goal

pub returns : goal.returns
returns c = finished_are_whole
