use Rattle.std.proofs.Common.{arith}
use Rattle.std.proofs.lemmas.Grind.{elements}
use Rattle.decoder.proofs.lawful.has_lens.Goals as goal

pub returns-then-piece-len-clause-bytes : goal.returns-then-piece-len-clause-bytes
returns-then-piece-len-clause-bytes c = grind (arith, elements)

pub returns-else-piece-len-clause-bytes : goal.returns-else-piece-len-clause-bytes
returns-else-piece-len-clause-bytes c = grind (arith, elements)
