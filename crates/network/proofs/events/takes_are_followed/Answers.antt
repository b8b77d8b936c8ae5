use Rattle.network.proofs.TakenReplyLemmas.{take_followed}
use Rattle.network.proofs.events.takes_are_followed.Goals as goal

pub returns : goal.returns
returns c = take_followed
