use Rattle.writable.proofs.StartingLemmas.{recovered_fit}
use Rattle.writable.proofs.starting.recovered_objects_are_fit.Goals as goal

pub returns : goal.returns
returns c = recovered_fit
