use Rattle.bank.proofs.CollectedBankLemmas.{fetched_piece-keeps_all, holds-keeps_all}
use Rattle.bank.proofs.KeepsAllLemmas.{opened_keeps_all, served_keeps_all, keeps_all-served}
use Rattle.bank.proofs.serving_keeps_all.Goals as goal

pub returns-clause-opened : goal.returns-clause-opened
returns-clause-opened c = opened_keeps_all

pub returns-clause-served : goal.returns-clause-served
returns-clause-served c = served_keeps_all

pub returns-clause-stays : goal.returns-clause-stays
returns-clause-stays c = keeps_all-served

pub returns-clause-fetched : goal.returns-clause-fetched
returns-clause-fetched c b tag keeps = fetched_piece-keeps_all b keeps tag

pub returns-clause-holds : goal.returns-clause-holds
returns-clause-holds c b tag step keeps = holds-keeps_all b keeps tag step
