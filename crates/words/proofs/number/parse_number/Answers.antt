use Rattle.std.proofs.Common.{rules}
use Rattle.words.proofs.number.parse_number.Goals as goal

pub returns : goal.returns
returns c = search rules
