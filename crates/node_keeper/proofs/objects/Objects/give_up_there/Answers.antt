use Rattle.std.proofs.Common.{rules}
use Rattle.node_keeper.proofs.objects.Objects.give_up_there.Goals as goal

pub returns-in-Some-clause-done : goal.returns-in-Some-clause-done
returns-in-Some-clause-done c = search rules
