use Rattle.std.proofs.Common.{arith}
use Rattle.bank.proofs.EntryOrderLemmas.{entries-rise}
use Rattle.bank.proofs.bank.Bank.rows.Goals as goal

pub returns : goal.returns
returns c = grind (arith, entries-rise)
