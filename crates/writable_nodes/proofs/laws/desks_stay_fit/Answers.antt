use Rattle.node.proofs.FitServiceLemmas.{services_fit}
use Rattle.writable_nodes.proofs.laws.desks_stay_fit.Goals as goal

pub returns : goal.returns
returns c = services_fit
