use Rattle.writable.proofs.AskingLemmas.{asked_again_fit}
use Rattle.writable.proofs.staying.asked_keepers_are_fit.Goals as goal

pub returns : goal.returns
returns c = asked_again_fit
