use Rattle.refinement.proofs.LocalEventLemmas.{each_refined}
use Rattle.refinement.proofs.events.local_events_are_world_events.Goals as goal

pub returns : goal.returns
returns c = each_refined
