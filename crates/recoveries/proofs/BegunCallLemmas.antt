-- A call begins, or is given up.
use Rattle.std.proofs.Common.{◌≡◌, ℕ, suc, ◌≤◌, Bool, true, false, not, cond, List, [], ◌∷◌, ◌++◌, Option, Some, None, is_some}
use Rattle.std.proofs.Common.{refl, sym, subst, ap, ◌∙◌, arith}
use Rattle.tag.specs.declared.refusal.Refusal.{Refusal}
use Rattle.tag.specs.declared.refusal.Refusal.TheVariants.{NotNow}
use Rattle.layout.specs.Layout.{Layout}
use Rattle.bank.specs.declared.kind.Kind.{Kind}
use Rattle.bank.specs.declared.kind.Kind.TheVariants.{Next, Spread}
use Rattle.bank.specs.declared.status.Status.TheVariants.{Pending}
use Rattle.encoder.specs.Fragment.{fragment}
use Rattle.record.specs.declared.call.CallKind.{CallKind}
use Rattle.record.specs.declared.call.CallKind.TheVariants.{Read, Write, Move}
use Rattle.record.specs.declared.stage.Stage.{Stage}
use Rattle.record.specs.declared.stage.Stage.TheVariants.{ReadNext}
use Rattle.record.specs.Legal.{first_stage, is_move}
use Rattle.record.specs.Steps.{new_phase}
use Rattle.open_calls.specs.OpenCalls.{NodeCall, open_call}
use Rattle.local_object.specs.Doing.{give_up_events, gives_up, is_client_call, move_refusal, read_refusal, unless_open, write_refusal}
use Rattle.local_object.specs.Events.{LocalEvent, all_done}
use Rattle.local_object.specs.Outcomes.{begun_here}
use Rattle.local_object.specs.Local.{LocalObject, last_position, layout_here, with_heard}
use Rattle.local_object.specs.Restarts.{IsKeptHere}
use Rattle.local_object.specs.Starting.{first_number}
use Rattle.local_object.proofs.LastPositionLemmas.{below_last, last_known}
use Rattle.recoveries.proofs.KeptPlaceLemmas.{both_moving, layouts_kept}
use Rattle.recoveries.proofs.KeptCallLemmas.{IsObjectCopy, moves_call, plus_client, plus_move, without_client}

-- a call that is not refused has a new id
pub new_id : (local : LocalObject) (id : ℕ) (later : Option Refusal) → unless_open local id later ≡ None →
    open_call local.calls id ≡ None
new_id local id later e = go (open_call local.calls id) refl e
  where
    go : (o : Option NodeCall) → open_call local.calls id ≡ o → cond (is_some o) (Some NotNow) later ≡ None →
        open_call local.calls id ≡ None
    go None f is = f
    go (Some call) f is = absurd (cc)

-- A read or a write begins at the node alone

pub client_begins_here : (moves : Type 0) (local copy : LocalObject) → IsObjectCopy moves local copy → (id : ℕ) →
    open_call local.calls id ≡ None → (kind : CallKind) → is_move kind ≡ false → (stage : Stage) (asked : Kind) (number position : ℕ)
    (o : Option Layout) → IsObjectCopy moves (begun_here local id kind stage asked number position o).local copy
client_begins_here moves local copy is id none kind client stage asked number position None = is
client_begins_here moves local copy is id none kind client stage asked number position (Some layout) =
    plus_client moves local copy is _ none client

module _ (moves : Type 0) (local copy : LocalObject) (is : IsObjectCopy moves local copy) (id : ℕ) where
  pub read_begins : read_refusal local id ≡ None →
      IsObjectCopy moves (all_done fragment local (LocalEvent.BeginRead id ∷ [])).local copy
  read_begins free =
      client_begins_here moves local copy is id (new_id local id None free) Read refl
      (ReadNext local.start local.start) Next (first_number local.start) local.start (layout_here local local.start)

  pub write_begins : (value : List ℕ) → write_refusal local id value ≡ None →
      IsObjectCopy moves (all_done fragment local (LocalEvent.BeginWrite id value ∷ [])).local copy
  write_begins value free =
      client_begins_here moves local copy is id (new_id local id _ free) (Write value) refl
      (ReadNext local.start local.start) Next (first_number local.start) local.start (layout_here local local.start)

  -- a read or a write is given up
  pub given_up : IsObjectCopy moves (all_done fragment local (give_up_events local id)).local copy
  given_up = go (open_call local.calls id) refl
    where
      there : (call : NodeCall) → open_call local.calls id ≡ Some call → (b : Bool) → moves_call call ≡ b → gives_up local id ≡ not b →
          IsObjectCopy moves (all_done fragment local (give_up_events local id)).local copy
      there call e true move gives =
          subst (λ b. IsObjectCopy moves (all_done fragment local (cond b (LocalEvent.GiveUp id ∷ []) [])).local copy)
          (sym gives) is
      there call e false client gives =
          subst (λ b. IsObjectCopy moves (all_done fragment local (cond b (LocalEvent.GiveUp id ∷ []) [])).local copy)
          (sym gives) (without_client moves local copy is id call e client)

      go : (o : Option NodeCall) → open_call local.calls id ≡ o →
          IsObjectCopy moves (all_done fragment local (give_up_events local id)).local copy
      go None e =
          subst (λ o. IsObjectCopy moves
          (all_done fragment local (cond (is_client_call o) (LocalEvent.GiveUp id ∷ []) [])).local copy) (sym e) is
      go (Some call) e = there call e (moves_call call) refl (ap is_client_call e)

-- A move begins at both

last_kept : (moves : Type 0) (local copy : LocalObject) → IsKeptHere moves local copy → moves →
    last_position copy ≡ last_position local
last_kept moves local copy kept here =
    let own = last_known copy kept.first in
    let known = last_known local (ap is_some (sym (layouts_kept moves local copy kept here 0)) ∙ kept.first) in
    let a : last_position copy ≤ last_position local =
    below_last local (last_position copy) own.0 (kept.layouts (last_position copy) own.0 own.1) in
    let b : last_position local ≤ last_position copy =
    below_last copy (last_position local) known.0 (kept.mover here (last_position local) known.0 known.1) in
    omega (arith, a, b)

move_begins_at : (moves : Type 0) → moves → (local copy : LocalObject) → IsObjectCopy moves local copy → (id : ℕ) →
    open_call local.calls id ≡ None → (stage : Stage) (asked : Kind) (position : ℕ) (o : Option Layout) → IsObjectCopy moves
    (begun_here local id Move stage asked 1 position o).local (begun_here copy id Move stage asked 1 position o).local
move_begins_at moves here local copy is id none stage asked position None = is
move_begins_at moves here local copy is id none stage asked position (Some layout) =
    subst (λ n. IsObjectCopy moves (record local { calls = local.calls ++ begun local.node ∷ [] })
    (record copy { calls = copy.calls ++ begun n ∷ [] })) (sym is.kept.node)
    (plus_move moves local copy is here (begun local.node) none refl)
  where
    begun : ℕ → NodeCall
    begun node = record {
      node = node;
      id = id;
      kind = Move;
      settled = None;
      stage = stage;
      phase = new_phase id 1 asked position layout 0;
    }

-- what the node keeps after a move begins from this position
abbrev moved_from : LocalObject → (id : ℕ) → Layout → (last : ℕ) → LocalObject
moved_from local id layout last =
    let next = with_heard local (suc last) layout in
    (begun_here next id Move (first_stage Move last) (Spread Pending) 1 last (layout_here next last)).local

module _ (moves : Type 0) (here : moves) (local copy : LocalObject) (is : IsObjectCopy moves local copy) (id : ℕ) (layout : Layout)
    (free : move_refusal local id ≡ None) where
  learnt_both : (last : ℕ) → IsObjectCopy moves (with_heard local (suc last) layout) (with_heard copy (suc last) layout)
  learnt_both last = record {
    kept = both_moving moves local copy is.kept (suc last) layout here;
    distinct = is.distinct;
    mover = is.mover;
  }

  begins_from : (last : ℕ) → IsObjectCopy moves (moved_from local id layout last) (moved_from copy id layout last)
  begins_from last =
      let next = with_heard local (suc last) layout in
      subst (λ o. IsObjectCopy moves (moved_from local id layout last)
      (begun_here (with_heard copy (suc last) layout) id Move (first_stage Move last) (Spread Pending) 1 last o).local)
      (sym (layouts_kept moves next (with_heard copy (suc last) layout) (learnt_both last).kept here last))
      (move_begins_at moves here next (with_heard copy (suc last) layout) (learnt_both last) id
      (new_id local id _ free) (first_stage Move last) (Spread Pending) last (layout_here next last))

  pub move_begins : IsObjectCopy moves
      (all_done fragment local (LocalEvent.BeginMove id layout ∷ [])).local
      (all_done fragment copy (LocalEvent.BeginMove id layout ∷ [])).local
  move_begins =
      subst (λ last. IsObjectCopy moves (moved_from local id layout (last_position local)) (moved_from copy id layout last))
      (sym (last_kept moves local copy is.kept here)) (begins_from (last_position local))
