use Rattle.bank.proofs.PieceBoundLemmas.{few_kept}
use Rattle.bank.proofs.few_are_kept.Goals as goal

pub returns : goal.returns
returns c = few_kept
