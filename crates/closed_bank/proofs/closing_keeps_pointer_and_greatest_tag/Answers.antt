use Rattle.closed_bank.proofs.ClosedBankLemmas.{closes_for, closed-remembered}
use Rattle.closed_bank.proofs.closing_keeps_pointer_and_greatest_tag.Goals as goal

pub returns-clause-closed : goal.returns-clause-closed
returns-clause-closed c = closes_for

pub returns-clause-forgotten : goal.returns-clause-forgotten
returns-clause-forgotten c = closed-remembered
