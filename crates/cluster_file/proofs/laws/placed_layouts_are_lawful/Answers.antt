use Rattle.cluster_file.proofs.DigestLemmas.{placed_again}
use Rattle.cluster_file.proofs.laws.placed_layouts_are_lawful.Goals as goal

pub returns : goal.returns
returns c = placed_again
