use Rattle.bank.proofs.RememberedReplyLemmas.{forgotten_fetched}
use Rattle.bank.proofs.RememberedStepLemmas.{forgotten_unchanged, forgotten_stays}
use Rattle.bank.proofs.forgotten_tags_change_nothing.Goals as goal

pub returns-clause-unchanged : goal.returns-clause-unchanged
returns-clause-unchanged c = forgotten_unchanged

pub returns-clause-fetched : goal.returns-clause-fetched
returns-clause-fetched c = forgotten_fetched

pub returns-clause-stays : goal.returns-clause-stays
returns-clause-stays c = forgotten_stays
