use Rattle.network.proofs.SettledValueLemmas.{settle_followed}
use Rattle.network.proofs.events.settles_are_followed.Goals as goal

pub returns : goal.returns
returns c = settle_followed
