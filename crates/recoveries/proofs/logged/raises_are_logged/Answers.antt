use Rattle.recoveries.proofs.LoggedLemmas.{raised_logged}
use Rattle.recoveries.proofs.logged.raises_are_logged.Goals as goal

pub returns : goal.returns
returns c = raised_logged
