use Rattle.fitting.proofs.AgainLemmas.{resent_fit}
use Rattle.fitting.proofs.outcomes.resent_is_fit.Goals as goal

pub returns : goal.returns
returns c = resent_fit
