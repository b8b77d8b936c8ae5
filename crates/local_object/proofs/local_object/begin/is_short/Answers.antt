use Rattle.local_object.proofs.BeginLemmas.{bytes_at}
use Rattle.local_object.proofs.local_object.begin.is_short.Goals as goal

pub returns-clause-bytes : goal.returns-clause-bytes
returns-clause-bytes c = bytes_at c.args.value.now (λ i. (c.type_inv.value i).fits)
