use Rattle.std.proofs.Common.{rules}
use Rattle.node_keeper.proofs.objects.Objects.is_changed_by.Goals as goal

pub returns-in-Some-clause-changed : goal.returns-in-Some-clause-changed
returns-in-Some-clause-changed c = search rules
