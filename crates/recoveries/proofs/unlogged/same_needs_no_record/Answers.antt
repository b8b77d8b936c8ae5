use Rattle.recoveries.proofs.LoggedLemmas.{same_unlogged}
use Rattle.recoveries.proofs.unlogged.same_needs_no_record.Goals as goal

pub returns : goal.returns
returns c = same_unlogged
