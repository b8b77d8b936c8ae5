use Rattle.std.proofs.Common.{rules}
use Rattle.node_log.proofs.entry.Entry.into_strings.Goals as goal

pub returns : goal.returns
returns c = search rules
