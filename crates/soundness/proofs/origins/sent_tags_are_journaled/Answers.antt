use Rattle.soundness.proofs.Values.SentTagLemmas.{sent_known}
use Rattle.soundness.proofs.origins.sent_tags_are_journaled.Goals as goal

pub returns : goal.returns
returns c = λ fragment object last index place call phase tag sound at within e.
    sent_known fragment object last sound index place call phase tag at within e
