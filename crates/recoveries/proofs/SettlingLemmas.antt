-- Which value a call settles: the one that its pieces decode to.
use Rattle.std.proofs.Common.{◌≡◌, ℕ, inl, inr, List, [], ◌∷◌, sym, subst, ap, ◌∙◌}
use Rattle.std.proofs.lemmas.Option.{same_Some}
use Rattle.decoder.specs.Decoded.{IsDecoded}
use Rattle.layout.specs.Layout.{Layout}
use Rattle.call.specs.Call.{OpenCall as Machine}
use Rattle.open_calls.specs.OpenCalls.{open_call}
use Rattle.local_object.specs.Events.{LocalEvent}
use Rattle.local_object.specs.Going.{IsFetchedValue}
use Rattle.local_object.specs.Local.{LocalObject, Place, layout_here, layout_in, heard_place}
use Rattle.local_object.specs.Pieces.{first_pieces}
use Rattle.local_object.specs.Taking.{AreSettling, CanSettle, machine_of}

-- the value that is fetched is one
one_fetched : (places : List Place) (a b : Machine) (v w : List ℕ) → a ≡ b → IsFetchedValue places a v → IsFetchedValue places b w → v ≡ w
one_fetched places a b v w same first second =
    second.only v
    (subst (λ (l : Layout). IsDecoded (record { k = l.k; pieces = first_pieces l.k b.phase.replies; value = v }))
    (same_Some first.layout second.layout
    (sym first.known ∙ ap (λ (m : Machine). layout_in (heard_place places m.phase.position)) same ∙ second.known))
    (subst (λ (m : Machine). IsDecoded (record {
      k = first.layout.k;
      pieces = first_pieces first.layout.k m.phase.replies;
      value = v;
    })) same first.decoded))

one_settled : (local : LocalObject) (id : ℕ) (v w : List ℕ) → CanSettle local id v → CanSettle local id w → v ≡ w
one_settled local id v w first second =
    one_fetched local.places (machine_of first.call) (machine_of second.call) v w
    (ap machine_of (same_Some first.call second.call (sym first.carried ∙ second.carried))) first.fetched second.fetched

-- who has the same open call, and has heard of the same layouts, can settle the same
settled_as : (a b : LocalObject) (id : ℕ) → open_call b.calls id ≡ open_call a.calls id →
    ((q : ℕ) → layout_here b q ≡ layout_here a q) → (v : List ℕ) → CanSettle a id v → CanSettle b id v
settled_as a b id same heard v can = record {
  call = can.call;
  carried = same ∙ can.carried;
  next = can.next;
  fetched = record {
    layout = can.fetched.layout;
    known = heard can.call.phase.position ∙ can.fetched.known;
    decoded = can.fetched.decoded;
    only = can.fetched.only;
  };
}

pub same_settling : (a b : LocalObject) (id : ℕ) → open_call b.calls id ≡ open_call a.calls id →
    ((q : ℕ) → layout_here b q ≡ layout_here a q) → (es fs : List LocalEvent) → AreSettling a id es → AreSettling b id fs → es ≡ fs
same_settling a b id same heard es fs (inl first) (inl second) = first.0 ∙ sym second.0
same_settling a b id same heard es fs (inl first) (inr second) =
    absurd (first.1 second.0 (settled_as b a id (sym same) (λ q. sym (heard q)) second.0 second.1))
same_settling a b id same heard es fs (inr first) (inl second) =
    absurd (second.1 first.0 (settled_as a b id same heard first.0 first.1))
same_settling a b id same heard es fs (inr first) (inr second) =
    first.2 ∙ ap (λ v. LocalEvent.Settle id v ∷ [])
    (one_settled b id first.0 second.0 (settled_as a b id same heard first.0 first.1) second.1)
    ∙ sym second.2
