use Rattle.node.proofs.FitCommandLemmas.{read_fit}
use Rattle.writable_nodes.proofs.laws.read_commands_are_fit.Goals as goal

pub returns : goal.returns
returns c = read_fit
