use Rattle.recoveries.proofs.LoggedLemmas.{reads_unlogged}
use Rattle.recoveries.proofs.unlogged.reads_need_no_record.Goals as goal

pub returns : goal.returns
returns c = reads_unlogged
