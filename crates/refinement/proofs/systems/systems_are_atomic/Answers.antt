use Rattle.refinement.proofs.SystemLawLemmas.{atomic_systems}
use Rattle.refinement.proofs.systems.systems_are_atomic.Goals as goal

pub returns : goal.returns
returns c = atomic_systems
