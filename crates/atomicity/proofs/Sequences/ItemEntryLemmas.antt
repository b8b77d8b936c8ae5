-- The entries of the calls.
use Rattle.std.proofs.Common.{◌≡◌, ◌≢◌, ℕ, false, List, [], ◌∷◌, map, Option, Some, None, IsSome, refl, sym, ap, ◌∙◌, ap₂, arith, slice_get}
use Rattle.std.proofs.lemmas.Option.{same_Some, slice_get-map}
use Rattle.std.specs.List.{AllByRecursion}
use Rattle.std.specs.Prelude.{option_map}
use Rattle.record.specs.declared.call.CallKind.{CallKind}
use Rattle.record.specs.declared.call.Entry.{Entry}
use Rattle.record.specs.declared.call.Operation.TheVariants as operation
use Rattle.record.specs.Journals.{operation_of, entry_of, entries}
use Rattle.record.specs.Legal.{is_move}
use Rattle.record.specs.Records.{Call, Object}
use Rattle.atomicity.specs.Atomic.{entry_at}
use Rattle.atomicity.proofs.Orders.ItemSortLemmas.{numbers}
use Rattle.atomicity.proofs.Orders.OrderedItemLemmas.{Item}

-- the entry of each call stands at the call's place
pub entries-get : (object : Object) (index : ℕ) →
    slice_get (entries object) index ≡ option_map (λ (c : Call). entry_of c.id c) (slice_get object.calls index)
entries-get object index = slice_get-map (λ (c : Call). entry_of c.id c) object.calls index

pub entry_there : (object : Object) (index : ℕ) (call : Call) → slice_get object.calls index ≡ Some call →
    slice_get (entries object) index ≡ Some (entry_of call.id call)
entry_there object index call at = entries-get object index ∙ ap (λ o. option_map (λ (c : Call). entry_of c.id c) o) at

-- and each entry is that of a call
pub entry_call : (object : Object) (index : ℕ) (entry : Entry) → slice_get (entries object) index ≡ Some entry →
    (call : Call) × (slice_get object.calls index ≡ Some call) × (entry_of call.id call ≡ entry)
entry_call object index entry e = go (slice_get object.calls index) refl
  where
    go : (o : Option Call) → slice_get object.calls index ≡ o →
        (call : Call) × (slice_get object.calls index ≡ Some call) × (entry_of call.id call ≡ entry)
    go None none =
        absurd (let clash : None ≡ Some entry = sym (entries-get object index
        ∙ ap (λ o. option_map (λ (c : Call). entry_of c.id c) o) none) ∙ e in cc)
    go (Some call) at =
        (call, at, same_Some (entry_of call.id call) entry (sym (entry_there object index call at) ∙ e))

pub same_entries : (entries : List Entry) (xs : List Item) → AllByRecursion (λ x. entry_at entries x.number ≡ x.entry) xs →
    map (λ number. entry_at entries number) (numbers xs) ≡ map (λ (x : Item). x.entry) xs
same_entries entries [] all = refl
same_entries entries (x ∷ xs) all = ap₂ (λ e es. e ∷ es) all.0 (same_entries entries xs all.1)

pub some_step : (o : Option ℕ) → IsSome o → (step : ℕ) × (o ≡ Some step)
some_step o h = grind arith

pub stays : (kind : CallKind) → operation_of kind ≢ operation.Move → is_move kind ≡ false
stays kind stands = grind arith
