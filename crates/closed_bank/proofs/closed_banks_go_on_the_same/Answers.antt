use Rattle.closed_bank.proofs.ClosedBankLemmas.{stays_closed, fetched_elsewhere, declined_same}
use Rattle.closed_bank.proofs.closed_banks_go_on_the_same.Goals as goal

pub returns-clause-served : goal.returns-clause-served
returns-clause-served c whole closed q now it some = stays_closed whole closed it q now some

pub returns-clause-declined : goal.returns-clause-declined
returns-clause-declined c = declined_same

pub returns-clause-fetched : goal.returns-clause-fetched
returns-clause-fetched c whole closed tag now it = fetched_elsewhere whole closed it tag now
