-- Whether the call with an id may settle a value.
use Rattle.std.proofs.Common.{◌≡◌, ℕ, List, Option, Some, None, slice_get, sym, subst, ◌∙◌}
use Rattle.std.proofs.lemmas.Option.{none-some, same_Some}
use Rattle.encoder.specs.Fragment.{fragment}
use Rattle.call.specs.declared.next.Next.TheVariants as next
use Rattle.call.specs.Call.{OpenCall as Machine}
use Rattle.open_calls.specs.OpenCalls.{NodeCall, open_call}
use Rattle.local_object.specs.declared.report.Report.{Report}
use Rattle.local_object.specs.Codes.{at_node, carried}
use Rattle.local_object.specs.Distinct.{HaveDistinctIds, HaveOtherIds, IsCallAt}
use Rattle.local_object.specs.Events.{LocalEvent}
use Rattle.local_object.specs.Going.{IsFetchedValue, next_here}
use Rattle.local_object.specs.Local.{LocalObject, Place}
use Rattle.local_object.specs.May.{MayHappenHere}
use Rattle.local_object.specs.Taking.{CanSettle, machine_of}
use Rattle.local_object.proofs.CarriedCallLemmas.{open_none}
use Rattle.local_object.proofs.FetchedLemmas.{may_settle_here}
use Rattle.local_object.proofs.NextLemmas.{settle_of}
use Rattle.local_object.proofs.OpenLemmas.{object, open_is}

module _ (node : ℕ) (delta : Option ℕ) (start : ℕ) (reports : List Report) (places : List Place) where
  pub none_to_settle : (calls : List Machine) (id : ℕ) → HaveOtherIds id calls → (value : List ℕ)
      → CanSettle (object node delta start reports places calls) id value → ⊥
  none_to_settle calls id others value can =
      let e : None ≡ Some can.call = sym (open_none node calls id others) ∙ can.carried in none-some can.call e

  module _ {calls : List Machine} {id index : ℕ} (distinct : HaveDistinctIds calls) (at : IsCallAt calls id index) (call : Machine)
      (there : slice_get calls index ≡ Some call) where
    abbrev here : LocalObject
    here = object node delta start reports places calls

    carries : open_call (carried node calls) id ≡ Some (at_node node call)
    carries = open_is node delta start reports places distinct at call there

    pub can_settle : (value : List ℕ) → next_here call ≡ next.Settle → IsFetchedValue places call value → CanSettle here id value
    can_settle value step fetched = record { call = at_node node call; carried = carries; next = step; fetched = fetched }

    call_is : (value : List ℕ) → (can : CanSettle here id value) → can.call ≡ at_node node call
    call_is value can = same_Some can.call (at_node node call) (sym can.carried ∙ carries)

    pub cannot_settle : (next_here call ≡ next.Settle → ⊥) → (value : List ℕ) → CanSettle here id value → ⊥
    cannot_settle other value can =
        other (subst (λ (c : NodeCall). next_here (machine_of c) ≡ next.Settle) (call_is value can) can.next)

    pub unfetched : ((value : List ℕ) → IsFetchedValue places call value → ⊥) → (value : List ℕ) → CanSettle here id value → ⊥
    unfetched none value can =
        none value (subst (λ (c : NodeCall). IsFetchedValue places (machine_of c) value) (call_is value can) can.fetched)

-- what may be settled
pub settle_may : (local : LocalObject) (id : ℕ) (value : List ℕ) → CanSettle local id value
    → MayHappenHere fragment local (LocalEvent.Settle id value)
settle_may local id value can = (
  can.call,
  can.carried,
  may_settle_here local.node can.call.node local.delta local.start local.reports local.places local.calls (machine_of can.call) value
      (settle_of (machine_of can.call) can.next) can.fetched,
)
