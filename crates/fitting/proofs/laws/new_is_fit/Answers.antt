use Rattle.fitting.proofs.PlaceLemmas.{new_fit}
use Rattle.fitting.proofs.laws.new_is_fit.Goals as goal

pub returns : goal.returns
returns c = new_fit
