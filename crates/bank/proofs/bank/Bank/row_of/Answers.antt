use Rattle.std.proofs.Common.{arith}
use Rattle.bank.proofs.EntryOrderLemmas.{get-rise}
use Rattle.bank.proofs.bank.Bank.row_of.Goals as goal

pub returns : goal.returns
returns c = grind (arith, get-rise)
