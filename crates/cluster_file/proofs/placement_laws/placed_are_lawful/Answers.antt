use Rattle.cluster_file.proofs.FirstNodesLemmas.{placed-IsLawful}
use Rattle.cluster_file.proofs.placement_laws.placed_are_lawful.Goals as goal

pub returns : goal.returns
returns c = placed-IsLawful
