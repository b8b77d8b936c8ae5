use Rattle.std.proofs.Common.{rules}
use Rattle.player.proofs.run.play_line.Goals as goal

pub returns-in-Err-Bad-clause-played : goal.returns-in-Err-Bad-clause-played
returns-in-Err-Bad-clause-played g c = search rules
