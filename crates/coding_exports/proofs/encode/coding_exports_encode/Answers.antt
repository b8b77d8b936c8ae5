use Rattle.std.proofs.Common.{rules}
use Rattle.coding_exports.proofs.encode.coding_exports_encode.Goals as goal

pub returns-in-Err-encode-clause-answer : goal.returns-in-Err-encode-clause-answer
returns-in-Err-encode-clause-answer c = search rules
