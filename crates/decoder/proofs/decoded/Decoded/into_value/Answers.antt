use Rattle.std.proofs.Common.{rules}
use Rattle.decoder.proofs.decoded.Decoded.into_value.Goals as goal

pub returns : goal.returns
returns c = search rules
