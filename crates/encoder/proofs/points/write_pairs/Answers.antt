use Rattle.std.proofs.Common.{rules}
use Rattle.encoder.proofs.points.write_pairs.Goals as goal

pub returns-in-8 : goal.returns-in-8
returns-in-8 c = search rules
