use Rattle.refinement.proofs.AnswerLemmas.{answers_kept}
use Rattle.refinement.proofs.systems.answers_are_in_history.Goals as goal

pub returns : goal.returns
returns c = answers_kept
