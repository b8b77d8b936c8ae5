use Rattle.std.proofs.Common.{rules}
use Rattle.encoder.proofs.block.encode_into.Goals as goal

pub returns : goal.returns
returns c = search rules
