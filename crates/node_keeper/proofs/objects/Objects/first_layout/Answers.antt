use Rattle.std.proofs.Common.{rules}
use Rattle.node_keeper.proofs.objects.Objects.first_layout.Goals as goal

pub returns : goal.returns
returns c = search rules
