use Rattle.std.proofs.Common.{rules}
use Rattle.node_keeper.proofs.objects.Objects.number.Goals as goal

pub returns : goal.returns
returns c = search rules
