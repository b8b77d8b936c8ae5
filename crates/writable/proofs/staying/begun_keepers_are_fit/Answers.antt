use Rattle.writable.proofs.KeeperLemmas.{begun_fit}
use Rattle.writable.proofs.staying.begun_keepers_are_fit.Goals as goal

pub returns : goal.returns
returns c = begun_fit
