use Rattle.bank.proofs.ForgottenCountLemmas.{few_remembered}
use Rattle.bank.proofs.few_are_remembered.Goals as goal

pub returns : goal.returns
returns c b delta is = few_remembered b delta is
