use Rattle.std.proofs.Common.{rules}
use Rattle.coding_exports.proofs.lost.coding_repair_fragment.Goals as goal

pub returns-in-Err-clause-bad_pieces : goal.returns-in-Err-clause-bad_pieces
returns-in-Err-clause-bad_pieces c = search rules
