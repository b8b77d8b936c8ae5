use Rattle.fitting.proofs.OutcomeLemmas.{closing_fit}
use Rattle.fitting.proofs.outcomes.closing_stays_fit.Goals as goal

pub returns : goal.returns
returns c = closing_fit
