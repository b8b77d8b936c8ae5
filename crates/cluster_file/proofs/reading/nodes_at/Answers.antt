use Rattle.cluster_file.proofs.NodeLemmas.{none_apart}
use Rattle.cluster_file.proofs.reading.nodes_at.Goals as goal

pub nodes_of-requires : goal.nodes_of-requires
nodes_of-requires c = none_apart
