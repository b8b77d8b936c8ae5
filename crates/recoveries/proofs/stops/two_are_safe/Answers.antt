use Rattle.recoveries.proofs.StopLemmas.{two_safe}
use Rattle.recoveries.proofs.stops.two_are_safe.Goals as goal

pub returns : goal.returns
returns c = two_safe
