use Rattle.recoveries.proofs.LoggedLemmas.{starts_logged}
use Rattle.recoveries.proofs.logged.starts_are_logged.Goals as goal

pub returns : goal.returns
returns c = starts_logged
