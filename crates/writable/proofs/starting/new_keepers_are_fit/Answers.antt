use Rattle.writable.proofs.StartingLemmas.{new_keeper_fit}
use Rattle.writable.proofs.starting.new_keepers_are_fit.Goals as goal

pub returns : goal.returns
returns c = new_keeper_fit
