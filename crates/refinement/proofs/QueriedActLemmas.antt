-- The local event by which the first reading of a call stands for its query leads to another course of all nodes.
use Rattle.std.proofs.Common.{◌≡◌, ℕ, true}
use Rattle.record.specs.Fragments.{Code}
use Rattle.local_object.specs.Events.{LocalEvent}
use Rattle.told_queries.proofs.FinalCourseLemmas.{may_query}
use Rattle.refinement.specs.Starting.{is_querying}
use Rattle.refinement.specs.Systems.{MayHappenIn, System, SystemEvent, system_after}
use Rattle.refinement.proofs.QueriedCallLemmas.{queried_if}
use Rattle.refinement.proofs.SystemPremiseLemmas.{HasRun}

pub queried_acted : (fragment : Code) (system : System) (has : HasRun fragment system) (node : ℕ) (event : LocalEvent) →
    is_querying event ≡ true → MayHappenIn fragment system (SystemEvent.Acts node event) →
    HasRun fragment (system_after fragment system (SystemEvent.Acts node event))
queried_acted = queried_if may_query
