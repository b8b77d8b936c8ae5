use Rattle.recoveries.proofs.OwnObjectLemmas.{starts_own}
use Rattle.recoveries.proofs.rewritten.starts_keep_own.Goals as goal

pub returns : goal.returns
returns c = starts_own
