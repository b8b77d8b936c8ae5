use Rattle.fitting.proofs.TakingLemmas.{taking_fit}
use Rattle.fitting.proofs.outcomes.taking_stays_fit.Goals as goal

pub returns : goal.returns
returns c = taking_fit
