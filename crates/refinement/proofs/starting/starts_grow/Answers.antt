use Rattle.refinement.proofs.StartedCallLemmas.{starts_are_grown}
use Rattle.refinement.proofs.starting.starts_grow.Goals as goal

pub returns : goal.returns
returns c = starts_are_grown
