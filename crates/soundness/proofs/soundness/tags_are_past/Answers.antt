use Rattle.soundness.proofs.Values.SentValueLemmas.{bank_known_past}
use Rattle.soundness.proofs.soundness.tags_are_past.Goals as goal

pub returns : goal.returns
returns c = λ fragment object last position member tag sound there. bank_known_past fragment object last sound position member tag there
