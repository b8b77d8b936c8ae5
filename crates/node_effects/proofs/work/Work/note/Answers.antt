use Rattle.std.proofs.Common.{rules}
use Rattle.node_effects.proofs.work.Work.note.Goals as goal

pub returns-clause-grown : goal.returns-clause-grown
returns-clause-grown c = search rules
