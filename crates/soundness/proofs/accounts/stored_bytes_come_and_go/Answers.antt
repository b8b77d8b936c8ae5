use Rattle.soundness.proofs.Accounting.StoredChangeLemmas.{stored-changed}
use Rattle.soundness.proofs.accounts.stored_bytes_come_and_go.Goals as goal

pub returns : goal.returns
returns c = λ fragment object last now server step sound. stored-changed fragment object last now step server sound
