use Rattle.recoveries.proofs.LoggedLemmas.{closes_logged}
use Rattle.recoveries.proofs.logged.closes_are_logged.Goals as goal

pub returns : goal.returns
returns c = closes_logged
