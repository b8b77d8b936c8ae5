use Rattle.told_replies.proofs.EarlyHistoryLemmas.{early_atomic}
use Rattle.told_replies.proofs.early_answers_are_atomic.Goals as goal

pub returns : goal.returns
returns c = early_atomic
