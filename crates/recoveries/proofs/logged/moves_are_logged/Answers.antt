use Rattle.recoveries.proofs.LoggedLemmas.{moves_logged}
use Rattle.recoveries.proofs.logged.moves_are_logged.Goals as goal

pub returns : goal.returns
returns c = moves_logged
