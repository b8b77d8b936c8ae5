use Rattle.node.proofs.AnswerSizeLemmas.{ended_fit}
use Rattle.node.proofs.laws.ended_answers_fit.Goals as goal

pub returns : goal.returns
returns c = ended_fit
