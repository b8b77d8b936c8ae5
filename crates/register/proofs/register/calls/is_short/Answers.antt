use Rattle.register.proofs.NewReadOrWriteLemmas.{bytes_at}
use Rattle.register.proofs.register.calls.is_short.Goals as goal

pub returns-clause-bytes : goal.returns-clause-bytes
returns-clause-bytes c = bytes_at c.args.value.now (λ i. (c.type_inv.value i).fits)
