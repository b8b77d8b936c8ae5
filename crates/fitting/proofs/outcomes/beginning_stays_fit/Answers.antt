use Rattle.fitting.proofs.OutcomeLemmas.{beginning_fit}
use Rattle.fitting.proofs.outcomes.beginning_stays_fit.Goals as goal

pub returns : goal.returns
returns c = beginning_fit
