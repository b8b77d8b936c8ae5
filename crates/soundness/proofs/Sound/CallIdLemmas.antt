-- Calls are found by their ids.
use Rattle.std.proofs.Common.{◌≡◌, ℕ, zero, suc, Bool, true, false, eqb, cond, List, [], ◌∷◌, Some, refl, sym, ap, ◌∙◌}
use Rattle.std.proofs.Common.{eqb-true, slice_get}
use Rattle.std.proofs.lemmas.Bool.{eqb-false}
use Rattle.std.proofs.lemmas.Option.{same_Some}
use Rattle.record.specs.Records.{Call, Object, index_by_id}
use Rattle.record.specs.Legal.{IsLegal}

-- the call that is found by an id has the id
abbrev Found : List Call → (id found : ℕ) → Type 0
Found calls id found = (other : Call) × (slice_get calls found ≡ Some other) × (other.id ≡ id)

-- a call with this id is found, if there is one
some_by_id : (calls : List Call) (id index : ℕ) (call : Call) → slice_get calls index ≡ Some call → id ≡ call.id →
    Found calls id (index_by_id calls id)
some_by_id [] id index call at same = absurd (cc)
some_by_id (first ∷ calls) id zero call at same = go (eqb first.id id) refl
  where
    go : (b : Bool) → eqb first.id id ≡ b → Found (first ∷ calls) id (cond b 0 (suc (index_by_id calls id)))
    go true e = (first, refl, eqb-true first.id id e)
    go false e = absurd (eqb-false first.id id e (ap (λ (c : Call). c.id) (same_Some first call at) ∙ sym same))
some_by_id (first ∷ calls) id (suc index) call at same = go (eqb first.id id) refl (some_by_id calls id index call at same)
  where
    go : (b : Bool) → eqb first.id id ≡ b → Found calls id (index_by_id calls id) →
        Found (first ∷ calls) id (cond b 0 (suc (index_by_id calls id)))
    go true e found = (first, refl, eqb-true first.id id e)
    go false e found = found

-- in a legal record it is the call with this id
pub found_by_id : (object : Object) → IsLegal object → (index : ℕ) (call : Call) (id : ℕ) → id ≡ call.id →
    slice_get object.calls index ≡ Some call → index_by_id object.calls id ≡ index
found_by_id object legal index call id same at =
    let found = some_by_id object.calls id index call at same in
    legal.ids (index_by_id object.calls id) index found.0 call found.1 at (found.2 ∙ same)
