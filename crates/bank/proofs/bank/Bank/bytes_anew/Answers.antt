use Rattle.std.proofs.Common.{arith}
use Rattle.bank.proofs.BankBytesLemmas.{rows_bytes}
use Rattle.bank.proofs.EntryOrderLemmas.{entries-rise}
use Rattle.bank.proofs.bank.Bank.bytes_anew.Goals as goal

pub returns : goal.returns
returns c = grind (arith, entries-rise, rows_bytes)
