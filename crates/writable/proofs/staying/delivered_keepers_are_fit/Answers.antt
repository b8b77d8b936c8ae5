use Rattle.writable.proofs.DeliveryLemmas.{delivered_fit}
use Rattle.writable.proofs.staying.delivered_keepers_are_fit.Goals as goal

pub returns : goal.returns
returns c = delivered_fit
