use Rattle.writable.proofs.DeliveryLemmas.{can_deliver_fit}
use Rattle.writable.proofs.laws.fit_keepers_can_deliver.Goals as goal

pub returns : goal.returns
returns c = can_deliver_fit
