use Rattle.recoveries.proofs.LoggedLemmas.{given_up_unlogged}
use Rattle.recoveries.proofs.unlogged.given_up_needs_no_record.Goals as goal

pub returns : goal.returns
returns c = given_up_unlogged
