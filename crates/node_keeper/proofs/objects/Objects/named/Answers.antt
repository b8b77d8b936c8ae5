use Rattle.std.proofs.Common.{arith}
use Rattle.std.proofs.lemmas.Grind.{elements}
use Rattle.node_keeper.proofs.objects.Objects.named.Goals as goal

pub returns-clause-named : goal.returns-clause-named
returns-clause-named c = grind (arith, elements)
