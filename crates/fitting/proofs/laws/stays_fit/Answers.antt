use Rattle.fitting.proofs.EventLemmas.{event_fit}
use Rattle.fitting.proofs.laws.stays_fit.Goals as goal

pub returns : goal.returns
returns c = event_fit
