use Rattle.std.proofs.Common.{arith}
use Rattle.std.proofs.lemmas.Grind.{elements}
use Rattle.decoder.proofs.lawful.points.Goals as goal

pub loop-piece-preserved : goal.loop-piece-preserved
loop-piece-preserved c = grind (arith, elements)
