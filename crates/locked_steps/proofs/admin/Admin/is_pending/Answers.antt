use Rattle.std.proofs.Common.{rules}
use Rattle.locked_steps.proofs.admin.Admin.is_pending.Goals as goal

pub returns : goal.returns
returns g c = search rules
