use Rattle.writable.proofs.StartingLemmas.{records_fit}
use Rattle.writable.proofs.starting.read_records_are_fit.Goals as goal

pub returns : goal.returns
returns c = records_fit
