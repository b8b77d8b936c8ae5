use Rattle.record.proofs.Phases.PhasePrefixLemmas.{courses_are_beginnings}
use Rattle.record.proofs.shape.courses_are_beginnings.Goals as goal

pub returns : goal.returns
returns c = courses_are_beginnings
