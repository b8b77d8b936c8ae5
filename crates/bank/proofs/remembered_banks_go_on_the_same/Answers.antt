use Rattle.bank.proofs.RememberedBankLemmas.{remembered-opened, remembered_again, remembered-retired}
use Rattle.bank.proofs.RememberedStepLemmas.{remembered-served}
use Rattle.bank.proofs.remembered_banks_go_on_the_same.Goals as goal

pub returns-clause-opened : goal.returns-clause-opened
returns-clause-opened c = remembered-opened

pub returns-clause-again : goal.returns-clause-again
returns-clause-again c = remembered_again

pub returns-clause-served : goal.returns-clause-served
returns-clause-served c = remembered-served

pub returns-clause-retired : goal.returns-clause-retired
returns-clause-retired c = remembered-retired
