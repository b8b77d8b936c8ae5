use Rattle.bank.proofs.BankBytesLemmas.{served_bytes}
use Rattle.bank.proofs.serving_adds_bytes.Goals as goal

pub returns : goal.returns
returns c = served_bytes
