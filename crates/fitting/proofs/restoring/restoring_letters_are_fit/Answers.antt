use Rattle.fitting.proofs.RestoringLemmas.{restoring_fit}
use Rattle.fitting.proofs.restoring.restoring_letters_are_fit.Goals as goal

pub returns : goal.returns
returns c = restoring_fit
