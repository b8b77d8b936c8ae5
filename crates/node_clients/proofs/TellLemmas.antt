-- Answers to clients, as what a node has to do more.
use Rattle.std.proofs.Common.{[]}
use Rattle.node_effects.specs.declared.work.Work.{Work}
use Rattle.node_effects.proofs.GrowthLemmas.{grown_none}
use Rattle.node_clients.specs.Answers.{TellsClients}

-- nobody is told anything
pub tells_nobody : (work : Work) → TellsClients work work
tells_nobody work = record { frames = []; due = []; grown = grown_none work }
