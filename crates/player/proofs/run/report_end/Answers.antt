use Rattle.std.proofs.Common.{rules}
use Rattle.player.proofs.run.report_end.Goals as goal

pub returns-in-NoRoom : goal.returns-in-NoRoom
returns-in-NoRoom g c = search rules
