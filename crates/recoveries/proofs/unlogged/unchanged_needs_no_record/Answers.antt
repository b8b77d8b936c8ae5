use Rattle.recoveries.proofs.LoggedLemmas.{unchanged_unlogged}
use Rattle.recoveries.proofs.unlogged.unchanged_needs_no_record.Goals as goal

pub returns : goal.returns
returns c = unchanged_unlogged
