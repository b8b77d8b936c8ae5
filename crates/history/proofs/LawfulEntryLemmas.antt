-- The entries of an object whose reads return journaled values are lawful.
use Rattle.std.proofs.Common.{◌≡◌, ℕ, suc, List, Option, Some}
use Rattle.std.proofs.Common.{None, IsSome, is_some, slice_get, refl, sym, ap, ◌∙◌, subst}
use Rattle.std.specs.Prelude.{option_map}
use Rattle.std.proofs.lemmas.Option.{same_Some}
use Rattle.record.specs.declared.call.CallKind.{CallKind}
use Rattle.record.specs.declared.call.CallKind.TheVariants as kind
use Rattle.record.specs.declared.call.Entry.{Entry}
use Rattle.record.specs.Records.{Call, Object}
use Rattle.atomicity.specs.Atomic.{MayStand}
use Rattle.record.specs.Journals.{ReadsJournaled, operation_of, entry_value, entry_of, entries}
use Rattle.atomicity.proofs.Sequences.ItemEntryLemmas.{entries-get}
use Rattle.history.specs.Check.{AreLawfulEntries}

-- what may stand has a value
has_value : (object : Object) → ReadsJournaled object → (index : ℕ) (call : Call) → slice_get object.calls index ≡ Some call →
    MayStand (entry_of call.id call) → IsSome (entry_value call.kind call.answered call.settled)
has_value object journaled index call at may = go call.kind refl may.0 may.1
  where
    answered_so : (answered : Option ℕ) → call.answered ≡ answered → call.kind ≡ kind.Read → IsSome answered →
        IsSome (entry_value kind.Read answered call.settled)
    answered_so None a k some = absurd (cc)
    answered_so (Some step) a k some = ap (λ (o : Option (List ℕ)). is_some o) (journaled index call step at k a).2

    go : (k : CallKind) → call.kind ≡ k → (operation_of k ≡ operation_of kind.Move → ⊥) →
        (operation_of k ≡ operation_of kind.Read → IsSome call.answered) → IsSome (entry_value k call.answered call.settled)
    go kind.Read k no_move reads = answered_so call.answered refl k (reads refl)
    go (kind.Write value) k no_move reads = refl
    go kind.Move k no_move reads = absurd (no_move refl)

pub lawful_entries : (object : Object) →
    ((index : ℕ) (call : Call) → slice_get object.calls index ≡ Some call → call.id ≡ suc index) →
    ReadsJournaled object → AreLawfulEntries (entries object)
lawful_entries object numbered journaled index entry at = go (slice_get object.calls index) refl (sym (entries-get object index) ∙ at)
  where
    go : (o : Option Call) → slice_get object.calls index ≡ o →
        option_map (λ (call : Call). entry_of call.id call) o ≡ Some entry →
        (entry.call ≡ suc index) × (MayStand entry → IsSome entry.value)
    go None e made = absurd (cc)
    go (Some call) e made =
        subst (λ (x : Entry). (x.call ≡ suc index) × (MayStand x → IsSome x.value)) (same_Some (entry_of call.id call) entry made)
        (numbered index call e, λ may. has_value object journaled index call e may)
