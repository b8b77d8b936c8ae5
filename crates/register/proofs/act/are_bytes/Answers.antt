use Rattle.register.proofs.NewReadOrWriteLemmas.{bytes_at}
use Rattle.register.proofs.act.are_bytes.Goals as goal

pub returns : goal.returns
returns c = bytes_at c.args.value.now (λ i. (c.type_inv.value i).fits)
