use Rattle.std.proofs.Common.{arith}
use Rattle.std.specs.FinMap as map
use Rattle.bank.proofs.EntryOrderLemmas.{entries-rise}
use Rattle.bank.proofs.bank.Bank.count.Goals as goal

pub returns : goal.returns
returns c = grind (arith, entries-rise, map.len-entries)
