use Rattle.closed_bank.proofs.ClosedBankLemmas.{comes_back, comes_back_short}
use Rattle.closed_bank.proofs.closed_banks_come_back.Goals as goal

pub returns-clause-whole : goal.returns-clause-whole
returns-clause-whole c = comes_back

pub returns-clause-forgetful : goal.returns-clause-forgetful
returns-clause-forgetful c = comes_back_short
