use Rattle.recoveries.proofs.LoggedLemmas.{served_logged}
use Rattle.recoveries.proofs.logged.served_is_logged.Goals as goal

pub returns : goal.returns
returns c = served_logged
