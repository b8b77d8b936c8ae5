use Rattle.std.proofs.Common.{rules}
use Rattle.node_effects.proofs.work.Work.send.Goals as goal

pub returns-clause-grown : goal.returns-clause-grown
returns-clause-grown c = search rules

pub returns-in_err-frame-clause-writes : goal.returns-in_err-frame-clause-writes
returns-in_err-frame-clause-writes c = search rules
