use Rattle.recoveries.proofs.LoggedMoveLemmas.{logged_differ}
use Rattle.recoveries.proofs.own_calls.logged_ids_differ.Goals as goal

pub returns : goal.returns
returns c = logged_differ
