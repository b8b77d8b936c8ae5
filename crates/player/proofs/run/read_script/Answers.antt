use Rattle.std.proofs.Common.{rules}
use Rattle.player.proofs.run.read_script.Goals as goal

pub returns-in-Ok : goal.returns-in-Ok
returns-in-Ok g c = search rules
