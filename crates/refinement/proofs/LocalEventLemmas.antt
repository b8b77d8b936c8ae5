-- Each event at a node is events of the world.
use Rattle.std.proofs.Common.{◌≡◌, ℕ, suc, false, List, length, refl, ◌∙◌}
use Rattle.record.specs.declared.call.Entry.{Entry}
use Rattle.local_object.specs.Events.{LocalEvent}
use Rattle.local_object.specs.Local.{LocalObject}
use Rattle.refinement.specs.Laws.{IsEventOfWorld, LocalEventsAreWorldEvents}
use Rattle.refinement.specs.Refined.{history_after, world_events, world_history}
use Rattle.refinement.specs.Starting.{event_count, is_known_by_count}
use Rattle.refinement.proofs.BegunAnewLemmas.{anew_has_events}
use Rattle.refinement.proofs.EndedEarlyLemmas.{early_has_events}
use Rattle.refinement.proofs.PlainEventLemmas.{each_plain}
use Rattle.refinement.proofs.RaisedPointerLemmas.{raise_has_events}
use Rattle.refinement.proofs.ReadOnLemmas.{read_on_has_events}
use Rattle.refinement.proofs.StartedCallLemmas.{read_has_events, write_has_events}

exactly : (event : LocalEvent) → is_known_by_count event ≡ false →
    ((local : LocalObject) → length (world_events local event) ≡ event_count local event) →
    ((local : LocalObject) (now : ℕ) (history : List Entry) →
    history_after local event now history ≡ world_history local event now history) → IsEventOfWorld event
exactly event plain counted same fragment world local formed part may premised =
    let done = each_plain event plain fragment world local formed part may premised in record {
      events = world_events local event;
      number = counted local;
      refined = done.0;
      entries = done.1 ∙ same local (suc world.now) world.history;
    }

pub each_refined : LocalEventsAreWorldEvents
each_refined (LocalEvent.BeginRead id) plain = read_has_events id
each_refined (LocalEvent.BeginWrite id value) plain = write_has_events id value
each_refined (LocalEvent.BeginMove id layout) plain =
    exactly (LocalEvent.BeginMove id layout) refl (λ local. refl) (λ local now history. refl)
each_refined (LocalEvent.Advance id) plain = exactly (LocalEvent.Advance id) refl (λ local. refl) (λ local now history. refl)
each_refined (LocalEvent.Serve letter) plain = exactly (LocalEvent.Serve letter) refl (λ local. refl) (λ local now history. refl)
each_refined (LocalEvent.Take letter) plain = exactly (LocalEvent.Take letter) refl (λ local. refl) (λ local now history. refl)
each_refined (LocalEvent.Settle id value) plain = exactly (LocalEvent.Settle id value) refl (λ local. refl) (λ local now history. refl)
each_refined (LocalEvent.Answer id) plain = exactly (LocalEvent.Answer id) refl (λ local. refl) (λ local now history. refl)
each_refined (LocalEvent.GiveUp id) plain = exactly (LocalEvent.GiveUp id) refl (λ local. refl) (λ local now history. refl)
each_refined (LocalEvent.Close position) plain = exactly (LocalEvent.Close position) refl (λ local. refl) (λ local now history. refl)
each_refined (LocalEvent.Grow id) plain = exactly (LocalEvent.Grow id) refl (λ local. refl) (λ local now history. refl)
each_refined (LocalEvent.Hear letter) plain = exactly (LocalEvent.Hear letter) refl (λ local. refl) (λ local now history. refl)
each_refined (LocalEvent.Redirect letter) plain = exactly (LocalEvent.Redirect letter) refl (λ local. refl) (λ local now history. refl)
each_refined (LocalEvent.ReadOn id) plain = read_on_has_events id
each_refined (LocalEvent.BeginAnew id) plain = anew_has_events id
each_refined (LocalEvent.Raise position) plain = raise_has_events position
each_refined (LocalEvent.EndEarly id value) plain = early_has_events id value
each_refined (LocalEvent.Query id) plain = absurd (cc)
