use Rattle.refinement.proofs.RestartedNodeLemmas.{restarts_refined}
use Rattle.refinement.proofs.events.restarts_are_world_events.Goals as goal

pub returns : goal.returns
returns c = restarts_refined
