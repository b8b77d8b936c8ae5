use Rattle.network.proofs.BegunMoveLemmas.{move_followed}
use Rattle.network.proofs.events.begun_moves_are_followed.Goals as goal

pub returns : goal.returns
returns c = move_followed
