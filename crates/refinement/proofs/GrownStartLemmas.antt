-- The start of a node grows by a call of its own. The world has no event then.
use Rattle.std.proofs.Common.{ℕ, suc, [], refl}
use Rattle.local_object.specs.Events.{LocalEvent}
use Rattle.local_object.specs.Local.{LocalObject}
use Rattle.local_object.specs.Outcomes.{silent}
use Rattle.refinement.specs.Laws.{IsPlainEventOfWorld}
use Rattle.refinement.proofs.LearntPartLemmas.{part_at}
use Rattle.refinement.proofs.PartLemmas.{refined}
use Rattle.refinement.proofs.TakenLetterLemmas.{still_kept}

pub grow_refined : (id : ℕ) → IsPlainEventOfWorld (LocalEvent.Grow id)
grow_refined id fragment world local formed part may premised =
    let local_after : LocalObject = record local { start = suc local.start } in
    refined fragment world [] world (silent local_after) (silent local_after) world.history refl refl tt
    (still_kept fragment world local_after formed (part_at world local (suc local.start) part premised))
