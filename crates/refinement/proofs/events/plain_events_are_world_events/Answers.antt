use Rattle.refinement.proofs.PlainEventLemmas.{each_plain}
use Rattle.refinement.proofs.events.plain_events_are_world_events.Goals as goal

pub returns : goal.returns
returns c = each_plain
