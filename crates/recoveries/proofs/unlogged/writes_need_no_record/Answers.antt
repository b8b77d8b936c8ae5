use Rattle.recoveries.proofs.LoggedLemmas.{writes_unlogged}
use Rattle.recoveries.proofs.unlogged.writes_need_no_record.Goals as goal

pub returns : goal.returns
returns c = writes_unlogged
