use Rattle.told_replies.proofs.EarlyValueLemmas.{early_answers_told}
use Rattle.told_replies.proofs.early_answers_may_be_told.Goals as goal

pub returns : goal.returns
returns c = early_answers_told
