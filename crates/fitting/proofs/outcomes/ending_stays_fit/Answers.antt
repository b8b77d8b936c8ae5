use Rattle.fitting.proofs.OutcomeLemmas.{ending_fit}
use Rattle.fitting.proofs.outcomes.ending_stays_fit.Goals as goal

pub returns : goal.returns
returns c = ending_fit
