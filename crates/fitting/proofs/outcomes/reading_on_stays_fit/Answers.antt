use Rattle.fitting.proofs.AgainLemmas.{reading_on_fit}
use Rattle.fitting.proofs.outcomes.reading_on_stays_fit.Goals as goal

pub returns : goal.returns
returns c = reading_on_fit
