-- A read or a write that begins at a start is what events of the world do; and how starts grow.
use Rattle.std.proofs.Common.{◌≡◌, ◌⊎◌, inl, inr, ℕ, suc, ◌*◌, ◌<◌, [], ◌∷◌, ◌++◌, List, sym, subst, arith}
use Rattle.record.specs.declared.call.CallKind.TheVariants.{Read, Write}
use Rattle.network.specs.Events.{Event}
use Rattle.starts.specs.Reading.{most_events}
use Rattle.starts.specs.Starts.{IsFinalAt}
use Rattle.starts.proofs.ShownFinalLemmas.{spreads_show_final}
use Rattle.local_object.specs.Events.{LocalEvent}
use Rattle.local_object.specs.Local.{layout_here}
use Rattle.local_object.specs.Starting.{called_at}
use Rattle.local_object.proofs.LastPositionLemmas.{some_layout}
use Rattle.refinement.specs.Laws.{IsEventOfWorld}
use Rattle.refinement.specs.Refined.{begun_entry}
use Rattle.refinement.specs.Starting.{HasEvents, StartsGrow}
use Rattle.refinement.proofs.BegunAtStartLemmas.{begins}
use Rattle.refinement.proofs.BegunCallLemmas.{read_begun, write_begun}
use Rattle.refinement.proofs.ChangedCallLemmas.{carried}

pub read_has_events : (id : ℕ) → IsEventOfWorld (LocalEvent.BeginRead id)
read_has_events id fragment world local formed part may premised =
    let first = some_layout (layout_here local 0) part.first in
    let there = some_layout (layout_here local local.start) may in
    let history = world.history ++ begun_entry id Read (suc world.now) ∷ [] in
    let one = read_begun fragment world local id formed part premised first.0 first.1 in
    subst (λ o. HasEvents fragment world (called_at local id Read local.start o) history (suc (local.start * most_events))) (sym there.1)
    (begins fragment world local id Read formed part premised first.0 first.1 (Event.BeginRead local.node id) history one.0 one.1
    local.start there.0 there.1 part.start)

pub write_has_events : (id : ℕ) (value : List ℕ) → IsEventOfWorld (LocalEvent.BeginWrite id value)
write_has_events id value fragment world local formed part may premised =
    let first = some_layout (layout_here local 0) part.first in
    let there = some_layout (layout_here local local.start) may.0 in
    let history = world.history ++ begun_entry id (Write value) (suc world.now) ∷ [] in
    let one = write_begun fragment world local id value may.1 formed part premised first.0 first.1 in
    subst (λ o. HasEvents fragment world (called_at local id (Write value) local.start o) history (suc (local.start * most_events)))
    (sym there.1)
    (begins fragment world local id (Write value) formed part premised first.0 first.1 (Event.BeginWrite local.node id value) history
    one.0 one.1 local.start there.0 there.1 part.start)

-- Starts grow

below_or_last : (a b : ℕ) → a < suc b → (a < b) ⊎ (a ≡ b)
below_or_last a b less = grind arith

pub starts_are_grown : StartsGrow
starts_are_grown fragment world local id call reached formed part open_here kind ended starts position less =
    pick (below_or_last position call.phase.position less)
  where
    pick : (position < call.phase.position) ⊎ (position ≡ call.phase.position) → IsFinalAt world position
    pick (inl before) = starts position before
    pick (inr last) = subst (IsFinalAt world) (sym last)
        (spreads_show_final fragment world id call reached
        (carried fragment world local id call formed part open_here).open_there kind ended)
