use Rattle.bank.proofs.TrueAnswerLemmas.{served_truth}
use Rattle.bank.proofs.replies_are_true.Goals as goal

pub returns : goal.returns
returns c b q now before opening kept = served_truth b q now before (λ _. opening) kept
