use Rattle.network.proofs.WorldLawLemmas.{atomic_worlds}
use Rattle.network.proofs.runs.worlds_are_atomic.Goals as goal

pub returns : goal.returns
returns c = atomic_worlds
