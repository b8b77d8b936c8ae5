use Rattle.recoveries.proofs.StopLemmas.{one_safe}
use Rattle.recoveries.proofs.stops.one_record_is_safe.Goals as goal

pub returns : goal.returns
returns c = one_safe
