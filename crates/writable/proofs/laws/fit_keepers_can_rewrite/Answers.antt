use Rattle.writable.proofs.RewritingLemmas.{can_rewrite_fit}
use Rattle.writable.proofs.laws.fit_keepers_can_rewrite.Goals as goal

pub returns : goal.returns
returns c = can_rewrite_fit
