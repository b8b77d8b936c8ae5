use Rattle.fitting.proofs.ArrivalLemmas.{serving_fit}
use Rattle.fitting.proofs.outcomes.serving_stays_fit.Goals as goal

pub returns : goal.returns
returns c = serving_fit
