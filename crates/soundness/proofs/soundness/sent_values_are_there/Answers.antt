use Rattle.soundness.proofs.Sound.SentPieceLemmas.{sent_there}
use Rattle.soundness.proofs.soundness.sent_values_are_there.Goals as goal

pub returns : goal.returns
returns c = λ fragment object last index call sound at takes. sent_there fragment object last sound index call at takes
