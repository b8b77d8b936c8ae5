use Rattle.fitting.proofs.OutcomeLemmas.{hearing_fit}
use Rattle.fitting.proofs.outcomes.hearing_stays_fit.Goals as goal

pub returns : goal.returns
returns c = hearing_fit
