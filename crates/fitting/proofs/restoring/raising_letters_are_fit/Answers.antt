use Rattle.fitting.proofs.RestoringLemmas.{raising_fit}
use Rattle.fitting.proofs.restoring.raising_letters_are_fit.Goals as goal

pub returns : goal.returns
returns c = raising_fit
