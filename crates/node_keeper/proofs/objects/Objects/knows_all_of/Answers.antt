use Rattle.std.proofs.Common.{rules}
use Rattle.node_keeper.proofs.objects.Objects.knows_all_of.Goals as goal

pub returns-in_ok-new_object-in-None-clause-knows : goal.returns-in_ok-new_object-in-None-clause-knows
returns-in_ok-new_object-in-None-clause-knows c = search rules
