use Rattle.writable.proofs.KeeperLemmas.{given_up_fit}
use Rattle.writable.proofs.staying.given_up_keepers_are_fit.Goals as goal

pub returns : goal.returns
returns c = given_up_fit
