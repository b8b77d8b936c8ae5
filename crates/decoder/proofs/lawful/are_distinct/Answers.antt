use Rattle.std.proofs.Common.{arith}
use Rattle.std.proofs.lemmas.Grind.{elements}
use Rattle.decoder.proofs.lawful.are_distinct.Goals as goal

pub returns-then-points-j-clause-bytes : goal.returns-then-points-j-clause-bytes
returns-then-points-j-clause-bytes c = grind (arith, elements)

pub returns-clause-distinct : goal.returns-clause-distinct
returns-clause-distinct c = grind (arith, elements)

pub returns-clause-bytes : goal.returns-clause-bytes
returns-clause-bytes c = grind (arith, elements)
