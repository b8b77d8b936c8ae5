use Rattle.std.proofs.Common.{rules}
use Rattle.decoder.proofs.rooms.write_in.Goals as goal

pub returns-clause-unchanged : goal.returns-clause-unchanged
returns-clause-unchanged g c = search rules
