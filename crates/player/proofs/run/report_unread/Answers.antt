use Rattle.std.proofs.Common.{rules}
use Rattle.player.proofs.run.report_unread.Goals as goal

pub returns-in-OutOfMemory : goal.returns-in-OutOfMemory
returns-in-OutOfMemory g c = search rules
