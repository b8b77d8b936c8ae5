use Rattle.std.proofs.Common.{rules}
use Rattle.encoder.proofs.coded.encode.Goals as goal

pub returns-then-len-gt-LONGEST_VALUE-clause-refused : goal.returns-then-len-gt-LONGEST_VALUE-clause-refused
returns-then-len-gt-LONGEST_VALUE-clause-refused c = search rules
