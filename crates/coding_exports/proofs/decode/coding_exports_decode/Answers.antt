use Rattle.std.proofs.Common.{arith}
use Rattle.std.proofs.lemmas.Grind.{common_steps}
use Rattle.coding_exports.proofs.decode.coding_exports_decode.Goals as goal

pub returns-in-Err-clause-bad_pieces : goal.returns-in-Err-clause-bad_pieces
returns-in-Err-clause-bad_pieces c = grind (arith, common_steps)
