use Rattle.recoveries.proofs.StopLemmas.{unlogged_safe}
use Rattle.recoveries.proofs.stops.unlogged_is_safe.Goals as goal

pub returns : goal.returns
returns c = unlogged_safe
