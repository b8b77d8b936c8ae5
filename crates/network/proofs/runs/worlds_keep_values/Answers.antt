use Rattle.network.proofs.WorldLawLemmas.{values_kept}
use Rattle.network.proofs.runs.worlds_keep_values.Goals as goal

pub returns : goal.returns
returns c = values_kept
