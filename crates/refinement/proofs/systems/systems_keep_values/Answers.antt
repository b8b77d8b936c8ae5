use Rattle.refinement.proofs.SystemValueLemmas.{systems_kept}
use Rattle.refinement.proofs.systems.systems_keep_values.Goals as goal

pub returns : goal.returns
returns c = systems_kept
