use Rattle.std.proofs.Common.{rules}
use Rattle.coding_exports.proofs.fragments.coding_encode.Goals as goal

pub returns-clause-fragments : goal.returns-clause-fragments
returns-clause-fragments c = search rules
