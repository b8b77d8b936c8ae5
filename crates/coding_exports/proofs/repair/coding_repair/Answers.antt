use Rattle.std.proofs.Common.{rules}
use Rattle.coding_exports.proofs.repair.coding_repair.Goals as goal

pub returns-in-Ok-clause-repaired : goal.returns-in-Ok-clause-repaired
returns-in-Ok-clause-repaired c = search rules
