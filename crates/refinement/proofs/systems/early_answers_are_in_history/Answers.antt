use Rattle.refinement.proofs.AnswerLemmas.{early_answers_kept}
use Rattle.refinement.proofs.systems.early_answers_are_in_history.Goals as goal

pub returns : goal.returns
returns c = early_answers_kept
