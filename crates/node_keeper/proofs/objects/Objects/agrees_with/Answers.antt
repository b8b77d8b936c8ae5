use Rattle.std.proofs.Common.{rules}
use Rattle.node_keeper.proofs.objects.Objects.agrees_with.Goals as goal

pub returns-in-Some-clause-agrees : goal.returns-in-Some-clause-agrees
returns-in-Some-clause-agrees c = search rules
