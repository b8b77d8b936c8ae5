use Rattle.std.proofs.Common.{rules}
use Rattle.node_keeper.proofs.objects.Objects.is_open_move.Goals as goal

pub returns-in-None : goal.returns-in-None
returns-in-None c = search rules
