-- A call settles a value.
use Rattle.std.proofs.Common.{ℕ, suc, List, [], ◌∷◌, Some, refl, sym, ap, ◌∙◌, slice_get, ◌≡◌}
use Rattle.std.proofs.lemmas.Option.{get_or_from_slice_get}
use Rattle.piece.specs.declared.piece.Piece.{Piece}
use Rattle.bank.specs.declared.kind.Kind.{Kind}
use Rattle.record.specs.Fragments.{Code, IsFetch}
use Rattle.record.specs.Sending.{request_to}
use Rattle.record.specs.Records.{no_layout}
use Rattle.network.specs.Worlds.{World, known_layouts, parts_of}
use Rattle.open_calls.specs.OpenCalls.{NodeCall, open_call, with_open}
use Rattle.network.specs.Events.{Event, IsFetched, on_open}
use Rattle.local_object.specs.Local.{LocalObject}
use Rattle.local_object.specs.Events.{LocalEvent, pieces_here}
use Rattle.local_object.specs.Outcomes.{Outcome, on_open_call, silent}
use Rattle.local_object.specs.May.{IsFetchedHere}
use Rattle.refinement.specs.Laws.{IsPlainEventOfWorld}
use Rattle.refinement.specs.Parts.{IsPartOf}
use Rattle.refinement.specs.WellFormed.{HasAsked}
use Rattle.refinement.proofs.BegunCallLemmas.{same_requests, ticked}
use Rattle.refinement.proofs.ChangedCallLemmas.{IsCarried, carried, changed_kept, changed_to}
use Rattle.refinement.proofs.PartLemmas.{refined}

-- the world after the call settled the value
abbrev settled_world : World → NodeCall → List ℕ → World
settled_world world call value =
    record world { calls = with_open (record call { settled = Some value }) world.calls; now = suc world.now }

-- what is fetched as far as the node can tell is fetched in the world
fetched : (fragment : Code) (world : World) (local : LocalObject) (id : ℕ) (call : NodeCall) (value : List ℕ) → IsPartOf world local →
    IsCarried world local id call → IsFetchedHere fragment local call value → IsFetched fragment world call value
fetched fragment world local id call value part is here = record {
  complete = here.complete;
  fetch = here.fetch;
  unsettled = here.unsettled;
  enough = here.enough;
  pieces = here.pieces (parts_of world call.node)
      (get_or_from_slice_get (known_layouts world call.node) call.phase.position here.layout no_layout
      (ap (λ node. slice_get (known_layouts world node) call.phase.position) is.node
      ∙ part.layouts call.phase.position here.layout here.known));
  is_value = here.is_value;
}

-- a fetch carries no pieces
fetch_pieceless : (kind : Kind) → IsFetch kind → (p q : Piece) → request_to kind p ≡ request_to kind q
fetch_pieceless kind fetch p q = ap (λ k. request_to k p) fetch.1 ∙ ap (λ k. request_to k q) (sym fetch.1)

-- so its requests stay the same as the value is settled
asked_settled : (fragment : Code) (world : World) (call : NodeCall) (value : List ℕ) → IsFetch call.phase.kind →
    HasAsked fragment world call → HasAsked fragment (settled_world world call value) (record call { settled = Some value })
asked_settled fragment world call value fetch has = record {
  layout = has.layout;
  at = has.at;
  asked = λ place message at. has.asked place message
      (ap (λ l. slice_get l place)
      (same_requests call.id call.phase.number call.phase.kind call.phase.position has.layout.members 0
      (pieces_here fragment has.layout call) (pieces_here fragment has.layout (record call { settled = Some value }))
      (fetch_pieceless call.phase.kind fetch)) ∙ at);
}

pub settle_refined : (id : ℕ) (value : List ℕ) → IsPlainEventOfWorld (LocalEvent.Settle id value)
settle_refined id value fragment world local formed part may premised =
    let call = may.0 in
    let is = carried fragment world local id call formed part may.1 in
    let new : NodeCall = record call { settled = Some value } in
    let after : Outcome = silent (record local { calls = with_open new local.calls }) in
    refined fragment world (Event.Settle id value ∷ [])
    (changed_to fragment world local id call new formed part is refl refl refl world.sent) after
    (on_open_call local (open_call local.calls id)
    (λ c. silent (record local { calls = with_open (record c { settled = Some value }) local.calls }))) world.history
    (ap (λ o. on_open (ticked world) o
    (λ c. record world { calls = with_open (record c { settled = Some value }) world.calls; now = suc world.now })) (sym is.open_there))
    (ap (λ o. on_open_call local o (λ c. silent (record local { calls = with_open (record c { settled = Some value }) local.calls })))
    (sym may.1))
    ((call, is.open_there, fetched fragment world local id call value part is may.2), record { network = tt; log = tt; ids = tt }, tt)
    (changed_kept fragment world local id call new formed part is refl refl refl world.sent [] (λ message was. was) tt
    (asked_settled fragment world call value may.2.fetch))
