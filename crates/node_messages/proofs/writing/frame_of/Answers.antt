use Rattle.std.proofs.Common.{rules}
use Rattle.node_messages.proofs.writing.frame_of.Goals as goal

pub returns-in_err-framed-clause-exact : goal.returns-in_err-framed-clause-exact
returns-in_err-framed-clause-exact c = search rules
