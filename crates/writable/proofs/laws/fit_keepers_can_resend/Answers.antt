use Rattle.writable.proofs.AskingLemmas.{can_resend_fit}
use Rattle.writable.proofs.laws.fit_keepers_can_resend.Goals as goal

pub returns : goal.returns
returns c = can_resend_fit
