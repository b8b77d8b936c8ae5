use Rattle.network.proofs.ServedRequestLemmas.{serve_followed}
use Rattle.network.proofs.events.serves_are_followed.Goals as goal

pub returns : goal.returns
returns c = serve_followed
