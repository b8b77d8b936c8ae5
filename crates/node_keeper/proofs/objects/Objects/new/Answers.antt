use Rattle.std.proofs.Common.{rules}
use Rattle.node_keeper.proofs.objects.Objects.new.Goals as goal

pub returns-clause-delta : goal.returns-clause-delta
returns-clause-delta c = search rules
