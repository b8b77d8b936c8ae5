use Rattle.std.proofs.Common.{rules}
use Rattle.locked_steps.proofs.admin.Admin.make_room.Goals as goal

pub returns-clause-same : goal.returns-clause-same
returns-clause-same g c = search rules
