-- The entries of a world's history and the calls of the record that it follows.
use Rattle.std.proofs.Common.{◌≡◌, ℕ, Option, Some, None, option_map, refl, sym, ap, ◌∙◌, slice_get, arith}
use Rattle.std.proofs.lemmas.Option.{same_Some, slice_get-map}
use Rattle.record.specs.declared.call.Entry.{Entry}
use Rattle.record.specs.Records.{Call, Object, IsNewId}
use Rattle.soundness.proofs.ListLemmas.{all_get}
use Rattle.network.specs.Worlds.{World}
use Rattle.network.specs.Premises.{IsUnused}
use Rattle.network.specs.Following.{Follows, entry_in_steps}
use Rattle.network.proofs.ChangedCallLemmas.{own_entry}

-- the call of an entry of the history
pub call_there : (world : World) (object : Object) → Follows world object → (place : ℕ) (entry : Entry) →
    slice_get world.history place ≡ Some entry →
    (call : Call) × (slice_get object.calls place ≡ Some call) × (own_entry call ≡ entry_in_steps entry)
call_there world object follows place entry at =
    go (slice_get object.calls place) refl
    (sym (slice_get-map own_entry object.calls place) ∙ ap (λ l. slice_get l place) follows.history
    ∙ slice_get-map entry_in_steps world.history place ∙ ap (option_map entry_in_steps) at)
  where
    go : (o : Option Call) → slice_get object.calls place ≡ o → option_map own_entry o ≡ Some (entry_in_steps entry) →
        (call : Call) × (slice_get object.calls place ≡ Some call) × (own_entry call ≡ entry_in_steps entry)
    go None e is = absurd (cc)
    go (Some call) e is = (call, e, same_Some (own_entry call) (entry_in_steps entry) is)

-- the entry of a call of the record
pub entry_there : (world : World) (object : Object) → Follows world object → (index : ℕ) (call : Call) →
    slice_get object.calls index ≡ Some call →
    (entry : Entry) × (slice_get world.history index ≡ Some entry) × (entry_in_steps entry ≡ own_entry call)
entry_there world object follows index call at =
    go (slice_get world.history index) refl
    (sym (slice_get-map entry_in_steps world.history index) ∙ ap (λ l. slice_get l index) (sym follows.history)
    ∙ slice_get-map own_entry object.calls index ∙ ap (option_map own_entry) at)
  where
    go : (o : Option Entry) → slice_get world.history index ≡ o → option_map entry_in_steps o ≡ Some (own_entry call) →
        (entry : Entry) × (slice_get world.history index ≡ Some entry) × (entry_in_steps entry ≡ own_entry call)
    go None e is = absurd (cc)
    go (Some entry) e is = (entry, e, same_Some (entry_in_steps entry) (own_entry call) is)

-- an id that no entry has is one that no call has
pub new_id : (world : World) (object : Object) → Follows world object → (id : ℕ) → IsUnused world id → IsNewId object id
new_id world object follows id unused index call at = grind (arith, all_get, entry_there)
