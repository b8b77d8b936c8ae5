use Rattle.recoveries.proofs.LoggedLemmas.{reading_on_unlogged}
use Rattle.recoveries.proofs.unlogged.reading_on_needs_no_record.Goals as goal

pub returns : goal.returns
returns c = reading_on_unlogged
