use Rattle.std.proofs.Common.{rules}
use Rattle.encoder.proofs.block.fill_blocks.Goals as goal

pub loop-j-preserved : goal.loop-j-preserved
loop-j-preserved c = search rules
