use Rattle.starts.proofs.AskedWorldLemmas.{start_asked}
use Rattle.starts.proofs.members_were_asked.Goals as goal

pub returns : goal.returns
returns c = start_asked
