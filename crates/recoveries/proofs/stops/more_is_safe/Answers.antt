use Rattle.recoveries.proofs.StopLemmas.{more_safe}
use Rattle.recoveries.proofs.stops.more_is_safe.Goals as goal

pub returns : goal.returns
returns c = more_safe
