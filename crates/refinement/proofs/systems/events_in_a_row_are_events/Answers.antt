use Rattle.refinement.proofs.EventRowLemmas.{rows_done}
use Rattle.refinement.proofs.systems.events_in_a_row_are_events.Goals as goal

pub returns : goal.returns
returns c = rows_done
