use Rattle.fitting.proofs.OutcomeLemmas.{first_fit}
use Rattle.fitting.proofs.outcomes.first_letters_are_fit.Goals as goal

pub returns : goal.returns
returns c = first_fit
