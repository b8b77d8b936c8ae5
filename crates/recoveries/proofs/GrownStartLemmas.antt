-- The start of an object grows by a call: at a node and at its copy, or at the node alone.
use Rattle.std.proofs.Common.{◌≡◌, ℕ, suc, ◌+◌, ◌^◌, ◌≤◌, ◌<◌, Bool, true, false, ◌&&◌, cond, is_some, nat_lt, ltb-true, [], ◌∷◌}
use Rattle.std.proofs.Common.{Option, Some, refl, sym, subst, ap, ◌∙◌, arith}
use Rattle.std.proofs.lemmas.Bool.{ltb-false}
use Rattle.encoder.specs.Fragment.{fragment}
use Rattle.layout.specs.Layout.{Layout}
use Rattle.open_calls.specs.OpenCalls.{NodeCall, open_call}
use Rattle.local_object.specs.Events.{LocalEvent, all_done}
use Rattle.local_object.specs.Leaving.{final_position, is_at}
use Rattle.local_object.specs.Local.{LocalObject, layout_here}
use Rattle.local_object.specs.Taking.{grow_events, grows_by}
use Rattle.recoveries.proofs.KeptPlaceLemmas.{layouts_kept}
use Rattle.recoveries.proofs.KeptCallLemmas.{IsObjectCopy}

-- a start after it grows, if it does
abbrev raised : Bool → (start : ℕ) → ℕ
raised grows start = cond grows (suc start) start

-- what the node keeps after the start grew by the call with this id, if it could
abbrev pub grown : LocalObject → (id : ℕ) → LocalObject
grown local id = (all_done fragment local (grow_events local id)).local

grown_is : (local : LocalObject) (id : ℕ) →
    grown local id ≡ record local { start = raised (grows_by local (open_call local.calls id)) local.start }
grown_is local id = go (grows_by local (open_call local.calls id))
  where
    go : (b : Bool) →
        (all_done fragment local (cond b (LocalEvent.Grow id ∷ []) [])).local ≡ record local { start = raised b local.start }
    go true = refl
    go false = refl

-- the calls stay
pub grown_found : (local : LocalObject) (id : ℕ) (call : NodeCall) → open_call local.calls id ≡ Some call →
    open_call (grown local id).calls id ≡ Some call
grown_found local id call found = ap (λ (l : LocalObject). open_call l.calls id) (grown_is local id) ∙ found

-- the starts change, and the copy's is not the later one
later_start : (moves : Type 0) (local copy : LocalObject) → IsObjectCopy moves local copy → (own other : ℕ) → other ≤ own →
    IsObjectCopy moves (record local { start = own }) (record copy { start = other })
later_start moves local copy is own other order = record {
  kept = record {
    node = is.kept.node;
    delta = is.kept.delta;
    start = order;
    layouts = is.kept.layouts;
    first = is.kept.first;
    banks = is.kept.banks;
    reports = is.kept.reports;
    calls = is.kept.calls;
    mover = is.kept.mover;
  };
  distinct = is.distinct;
  mover = is.mover;
}

-- the start of the node alone grows
pub grow_alone : (moves : Type 0) (local copy : LocalObject) → IsObjectCopy moves local copy → (id : ℕ) →
    IsObjectCopy moves (grown local id) copy
grow_alone moves local copy is id =
    let grows = grows_by local (open_call local.calls id) in
    subst (λ l. IsObjectCopy moves l copy) (sym (grown_is local id))
    (later_start moves local copy is (raised grows local.start) copy.start (up grows local.start is.kept.start))
  where
    up : (b : Bool) (start : ℕ) → copy.start ≤ start → copy.start ≤ raised b start
    up true start order = omega arith
    up false start order = order

-- A later start stays later, and so does an equal one that grows where the other one does

less_raised : (a b : Bool) (other own : ℕ) → other < own → raised b other ≤ raised a own
less_raised true true other own less = omega arith
less_raised true false other own less = omega arith
less_raised false true other own less = omega arith
less_raised false false other own less = omega arith

same_raised : (b : Bool) (other own : ℕ) → other ≤ own → raised b other ≤ raised b own
same_raised true other own order = omega arith
same_raised false other own order = order

both_raised : (a b : Bool) (other own : ℕ) → other ≤ own → (other ≡ own → b ≡ a) → raised b other ≤ raised a own
both_raised a b other own order same = go (nat_lt other own) refl
  where
    go : (less : Bool) → nat_lt other own ≡ less → raised b other ≤ raised a own
    go true e = less_raised a b other own (ltb-true other own e)
    go false e =
        let back : own ≤ other = ltb-false other own e in
        let equal : other ≡ own = omega (arith, order, back) in
        subst (λ c. raised c other ≤ raised a own) (sym (same equal)) (same_raised a other own order)

-- whether the start grows by a call, where the node has heard of this layout for the next position
abbrev grows_at : NodeCall → (start : ℕ) → Option Layout → Bool
grows_at call start next =
    is_at (final_position (Some call)) start
    && (is_some call.phase.end && (is_some next && nat_lt (start + 1) (2 ^ 31)))

module _ (moves : Type 0) (here : moves) (local copy : LocalObject) (is : IsObjectCopy moves local copy) (id : ℕ) (call : NodeCall)
    (found : open_call local.calls id ≡ Some call) (again : open_call copy.calls id ≡ Some call) where
  -- a start that is the same grows at both, or at neither
  same_grows : copy.start ≡ local.start → grows_by copy (open_call copy.calls id) ≡ grows_by local (open_call local.calls id)
  same_grows same =
      ap (grows_by copy) again
      ∙ ap (λ s. grows_at call s (layout_here copy (suc s))) same
      ∙ ap (grows_at call local.start) (layouts_kept moves local copy is.kept here (suc local.start))
      ∙ ap (grows_by local) (sym found)

  -- the start grows by an open call that both have
  pub both_grow : IsObjectCopy moves (grown local id) (grown copy id)
  both_grow =
      let own = grows_by local (open_call local.calls id) in
      let other = grows_by copy (open_call copy.calls id) in
      subst (λ l. IsObjectCopy moves l (grown copy id)) (sym (grown_is local id))
      (subst (IsObjectCopy moves (record local { start = raised own local.start })) (sym (grown_is copy id))
      (later_start moves local copy is (raised own local.start) (raised other copy.start)
      (both_raised own other copy.start local.start is.kept.start same_grows)))
