use Rattle.fitting.proofs.EventLemmas.{events_fit}
use Rattle.fitting.proofs.laws.all_stay_fit.Goals as goal

pub returns : goal.returns
returns c = events_fit
