use Rattle.std.proofs.Common.{rules}
use Rattle.node.proofs.StartLemmas.{none_wait}
use Rattle.node.proofs.node.Node.new.Goals as goal

pub returns-clause-waits : goal.returns-clause-waits
returns-clause-waits c = none_wait c.new-2.result.clients c.new-2.ensures.clients

pub returns-clause-kept : goal.returns-clause-kept
returns-clause-kept c = search rules
