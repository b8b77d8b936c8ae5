use Rattle.starts.proofs.ReachedWorldLemmas.{calls_read_to_start}
use Rattle.starts.proofs.calls_read_on.Goals as goal

pub returns : goal.returns
returns c = calls_read_to_start
