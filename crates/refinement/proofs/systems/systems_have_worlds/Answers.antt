use Rattle.refinement.proofs.SystemLawLemmas.{have_worlds}
use Rattle.refinement.proofs.systems.systems_have_worlds.Goals as goal

pub returns : goal.returns
returns c = have_worlds
