-- Calls that are given up.
use Rattle.std.proofs.Common.{◌≡◌, ◌≢◌, ℕ, zero, suc, Bool, true, false, cond, List, [], ◌∷◌, slice_get, Some, refl, sym, subst, ap, ◌∙◌}
use Rattle.std.specs.List.{AllByRecursion}
use Rattle.record.specs.Legal.{is_move}
use Rattle.record.specs.declared.call.CallKind.TheVariants.{Move}
use Rattle.call.specs.Call.{OpenCall as Machine}
use Rattle.open_calls.specs.OpenCalls.{NodeCall, open_call}
use Rattle.local_object.specs.Codes.{carried}
use Rattle.local_object.specs.Distinct.{HaveOtherIds, DifferInIds}
use Rattle.local_object.specs.Doing.{IsOutcome, give_up_events, gives_up, is_client_call}
use Rattle.local_object.specs.Events.{LocalEvent, ended_here}
use Rattle.local_object.specs.Local.{LocalObject}
use Rattle.local_object.proofs.CarriedCallLemmas.{other_at, same_call}

-- giving up a call changes no call but this one
other_kept : (node id : ℕ) (calls : List Machine) → HaveOtherIds id calls
    → AllByRecursion (λ (call : NodeCall). call.id ≡ id → call.kind ≢ Move) (carried node calls)
other_kept node id [] others = tt
other_kept node id (c ∷ cs) others = ((λ e. absurd (others.0 e)), other_kept node id cs others.1)

pub give_up_may : (node : ℕ) (calls : List Machine) (i : ℕ) (call : Machine) → DifferInIds calls → slice_get calls i ≡ Some call
    → is_move call.kind ≡ false → AllByRecursion (λ (other : NodeCall). other.id ≡ call.id → other.kind ≢ Move) (carried node calls)
give_up_may node [] i call distinct at client = tt
give_up_may node (c ∷ cs) zero call distinct at client =
    let same = same_call c call at in (
      (λ _ e. absurd (let t : is_move call.kind ≡ true = ap (λ (m : Machine). is_move m.kind) (sym same) ∙ ap is_move e in cc)),
      other_kept node call.id cs (subst (λ (m : Machine). HaveOtherIds m.id cs) same distinct.0),
    )
give_up_may node (c ∷ cs) (suc i) call distinct at client =
    ((λ e. absurd (other_at c.id cs i call distinct.0 at (sym e))), give_up_may node cs i call distinct.1 at client)

module _ (o old : LocalObject) (view : o ≡ old) (id : ℕ) where
  pub gives_is : (r : Bool) → r ≡ is_client_call (open_call o.calls id) → r ≡ gives_up old id
  gives_is r is = is ∙ ap (λ (l : LocalObject). gives_up l id) view

  pub give_up_none : (new : LocalObject) → false ≡ is_client_call (open_call o.calls id) → new ≡ old
      → IsOutcome old (give_up_events old id) new []
  give_up_none new is same =
      subst (λ b. IsOutcome old (cond b (LocalEvent.GiveUp id ∷ []) []) new []) (gives_is false is)
      (record { may = tt; local = same; letters = refl })

  pub give_up_done : (new : LocalObject) → true ≡ is_client_call (open_call o.calls id)
      → AllByRecursion (λ (call : NodeCall). call.id ≡ id → call.kind ≢ Move) o.calls
      → new ≡ ended_here o id → IsOutcome old (give_up_events old id) new []
  give_up_done new is may same =
      subst (λ b. IsOutcome old (cond b (LocalEvent.GiveUp id ∷ []) []) new []) (gives_is true is)
      (subst (λ (l : LocalObject). IsOutcome l (LocalEvent.GiveUp id ∷ []) new []) view
      (record { may = (may, tt); local = same; letters = refl }))
