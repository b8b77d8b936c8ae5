use Rattle.recoveries.proofs.LoggedLemmas.{taken_logged}
use Rattle.recoveries.proofs.logged.taken_is_logged.Goals as goal

pub returns : goal.returns
returns c = taken_logged
