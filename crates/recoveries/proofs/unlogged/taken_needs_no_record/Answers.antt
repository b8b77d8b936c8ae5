use Rattle.recoveries.proofs.LoggedLemmas.{taken_unlogged}
use Rattle.recoveries.proofs.unlogged.taken_needs_no_record.Goals as goal

pub returns : goal.returns
returns c = taken_unlogged
