use Rattle.writable.proofs.KeeperLemmas.{can_begin_fit}
use Rattle.writable.proofs.laws.fit_keepers_can_begin.Goals as goal

pub returns : goal.returns
returns c = can_begin_fit
