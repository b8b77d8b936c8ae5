use Rattle.network.proofs.BegunCallLemmas.{read_followed, write_followed}
use Rattle.network.proofs.events.begun_calls_are_followed.Goals as goal

pub returns : goal.returns
returns c = λ node id value. (read_followed node id, write_followed node id value)
