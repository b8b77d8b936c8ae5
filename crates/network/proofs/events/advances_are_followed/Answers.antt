use Rattle.network.proofs.BegunPhaseLemmas.{advance_followed}
use Rattle.network.proofs.events.advances_are_followed.Goals as goal

pub returns : goal.returns
returns c = advance_followed
