-- A call begins the phase that is due.
use Rattle.std.proofs.Common.{◌≡◌, ℕ, suc, ◌+◌, false, List, [], ◌∷◌, ◌++◌, Option, Some, None, IsSome}
use Rattle.std.proofs.Common.{refl, sym, subst, ap, ◌∙◌, slice_get, arith}
use Rattle.std.proofs.lemmas.Option.{get_or_from_slice_get}
use Rattle.layout.specs.Layout.{Layout}
use Rattle.bank.specs.declared.kind.Kind.{Kind}
use Rattle.mail.specs.declared.message.Message.{Message}
use Rattle.record.specs.Fragments.{Code}
use Rattle.record.specs.PhaseOrder.{begun_at}
use Rattle.record.specs.Records.{no_layout}
use Rattle.record.specs.Sending.{requests}
use Rattle.record.specs.Steps.{new_phase}
use Rattle.network.specs.Worlds.{World, known_layout, known_layouts}
use Rattle.open_calls.specs.OpenCalls.{NodeCall, due_phase, open_call, stage_reached, with_open}
use Rattle.network.specs.Events.{Event, advanced_world, on_open}
use Rattle.local_object.specs.Local.{LocalObject, layout_here}
use Rattle.local_object.specs.Events.{LocalEvent, advanced_at, advanced_here, pieces_here}
use Rattle.local_object.specs.Outcomes.{on_open_call, silent}
use Rattle.refinement.specs.Laws.{IsPlainEventOfWorld}
use Rattle.refinement.specs.Parts.{IsPartOf}
use Rattle.refinement.specs.WellFormed.{IsWellFormed}
use Rattle.refinement.proofs.BegunCallLemmas.{ticked}
use Rattle.refinement.proofs.ChangedCallLemmas.{IsCarried, carried, changed_kept, changed_to}
use Rattle.refinement.proofs.PartLemmas.{IsKept, refined, start_still, unchanged}
use Rattle.refinement.proofs.LetterLemmas.{behind, in_front, letters_were_sent, requests_speak}
use Rattle.refinement.proofs.LearntPartLemmas.{known_by_all}
use Rattle.local_object.proofs.LastPositionLemmas.{some_layout}

module _ (fragment : Code) (world : World) (local : LocalObject) (id : ℕ) (call : NodeCall) (formed : IsWellFormed fragment world)
    (part : IsPartOf world local) (is : IsCarried world local id call) (next : Kind × ℕ) where
  -- the call after it begins the phase, where the position has this layout
  abbrev advanced_call : Layout → NodeCall
  advanced_call layout = record call {
    stage = begun_at (stage_reached call) next.1;
    phase = new_phase call.id (suc call.phase.number) next.0 next.1 layout 0;
  }

  abbrev due_requests : Layout → List Message
  due_requests layout =
      requests call.id (suc call.phase.number) next.0 next.1 layout.members 0 (pieces_here fragment layout call)

  abbrev advanced_to : Layout → World
  advanced_to layout =
      changed_to fragment world local id call (advanced_call layout) formed part is refl refl refl (world.sent ++ due_requests layout)

  advanced_with : (layout : Layout) → slice_get (known_layouts world local.node) next.1 ≡ Some layout →
      IsKept fragment world (advanced_to layout) (advanced_at fragment local call next (Some layout)) 1 world.history
  advanced_with layout at =
      let messages = due_requests layout in
      let sent = world.sent ++ messages in
      let piece = pieces_here fragment layout call in
      changed_kept fragment world local id call (advanced_call layout) formed part is refl refl refl sent
      (advanced_at fragment local call next (Some layout)).sent
      (λ message was. (was.0, in_front world.sent messages was.0 message was.1))
      (letters_were_sent (advanced_to layout) local false layout messages
      (λ place message there. behind world.sent messages place message there)
      (requests_speak (λ p. slice_get (known_layouts world 0) p ≡ Some layout) call.id (suc call.phase.number) next.0 next.1
      layout.members 0 piece (known_by_all world formed.one local.node next.1 layout at))
      (start_still world (with_open (advanced_call layout) world.calls) sent world.history (suc world.now) local.start part.start)
      (λ p other e. known_by_all world formed.one local.node p other (part.layouts p other e)))
      (λ had. record {
        layout = layout;
        at = known_by_all world formed.one local.node next.1 layout at;
        asked = λ place message there. behind world.sent messages place message there;
      })

  pub advanced_kept : (layout : Layout) → layout_here local next.1 ≡ Some layout →
      IsKept fragment world (advanced_world fragment (ticked world) call (Some next)) (advanced_here fragment local call (Some next)) 1
      world.history
  advanced_kept layout known =
      let at = part.layouts next.1 layout known in
      let same : known_layout world call.node next.1 ≡ layout =
      ap (λ node. known_layout world node next.1) is.node
      ∙ get_or_from_slice_get (known_layouts world local.node) next.1 layout no_layout at in
      subst (λ o. IsKept fragment world (advanced_world fragment (ticked world) call (Some next)) (advanced_at fragment local call next o) 1
      world.history) (sym known)
      (subst (λ l. IsKept fragment world (advanced_to l) (advanced_at fragment local call next (Some layout)) 1 world.history) (sym same)
      (advanced_with layout at))

-- the world one event later, without a change
pub tick_kept : (fragment : Code) (world : World) (local : LocalObject) → IsWellFormed fragment world → IsPartOf world local →
    IsKept fragment world (ticked world) (silent local) 1 world.history
tick_kept fragment world local formed part =
    let one : world.now + 1 ≡ suc world.now = omega arith in
    subst (λ now. IsKept fragment world (record world { now = now }) (silent local) 1 world.history) one
    (unchanged fragment world local 1 formed part)

pub advance_refined : (id : ℕ) → IsPlainEventOfWorld (LocalEvent.Advance id)
advance_refined id fragment world local formed part may premised =
    let call = may.0 in
    let is = carried fragment world local id call formed part may.1 in
    refined fragment world (Event.Advance id ∷ []) (advanced_world fragment (ticked world) call (due_phase call))
    (advanced_here fragment local call (due_phase call))
    (on_open_call local (open_call local.calls id) (λ c. advanced_here fragment local c (due_phase c))) world.history
    (ap (λ o. on_open (ticked world) o (λ c. advanced_world fragment (ticked world) c (due_phase c))) (sym is.open_there))
    (ap (λ o. on_open_call local o (λ c. advanced_here fragment local c (due_phase c))) (sym may.1))
    ((call, is.open_there, may.2), record { network = tt; log = tt; ids = tt }, tt)
    (go call is (due_phase call) (λ kind position e. may.3 kind position e))
  where
    go : (call : NodeCall) → IsCarried world local id call → (o : Option (Kind × ℕ)) →
        ((kind : Kind) (position : ℕ) → o ≡ Some (kind, position) → IsSome (layout_here local position)) →
        IsKept fragment world (advanced_world fragment (ticked world) call o) (advanced_here fragment local call o) 1 world.history
    go call is None known = tick_kept fragment world local formed part
    go call is (Some next) known =
        let there = some_layout (layout_here local next.1) (known next.0 next.1 refl) in
        advanced_kept fragment world local id call formed part is next there.0 there.1
