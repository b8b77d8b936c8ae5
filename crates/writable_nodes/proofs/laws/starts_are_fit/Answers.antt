use Rattle.writable_nodes.proofs.StartLemmas.{starts_fit}
use Rattle.writable_nodes.proofs.laws.starts_are_fit.Goals as goal

pub returns : goal.returns
returns c = starts_fit
