-- Between the entries of the map and the objects by name: what a look-up found, and what a write at its place changes.
use Rattle.std.proofs.Common.{◌≡◌, ℕ, zero, suc, ◌<◌, Bool, true, false, if◌then◌else◌}
use Rattle.std.proofs.Common.{List, [], ◌∷◌, map, length, get_or, slice_get, Option, Some, None}
use Rattle.std.proofs.Common.{is_some, String, Global, bytes_eq, position, refl, sym, ap, ◌∙◌, arith}
use Rattle.std.specs.String.{string_bytes}
use Rattle.std.specs.Map.{keys_of, values_of, lookup}
use Rattle.std.proofs.lemmas.List.Quantifiers.{position-Some}
use Rattle.indexmap.specs.IndexMap.{set_value_at}
use Rattle.register.specs.State.{State}
use Rattle.register.proofs.ListLemmas.{same_some}
use Rattle.cluster.specs.Cluster.{Named, named, with_changed, place_of}

abbrev pub Entry : Type 0
Entry = String Global × State

abbrev pub object_of : Entry → Named
object_of e = record { name = string_bytes e.0; state = e.1 }

abbrev pub objects_of : List Entry → List Named
objects_of entries = map (λ e. record { name = string_bytes e.0; state = e.1 }) entries

-- whether a key is this name
abbrev pub is_name : List ℕ → String Global → Bool
is_name name key = bytes_eq name (string_bytes key)

-- the first entry of this name is at this place
abbrev IsFirst : List ℕ → List Entry → ℕ → Type 0
IsFirst name [] place = ⊥
IsFirst name (e ∷ es) zero = is_name name e.0 ≡ true
IsFirst name (e ∷ es) (suc place) = (is_name name e.0 ≡ false) × IsFirst name es place

-- the object of this name is at this place
pub record IsAt (entries : List Entry) (name : List ℕ) (place : ℕ) (old : State) : Type 0 where
  pub first : IsFirst name entries place
  pub value : slice_get (values_of entries) place ≡ Some old

first_at : (name : List ℕ) (entries : List Entry) (place : ℕ) (d : String Global) →
    place < length (keys_of entries) → is_name name (get_or (keys_of entries) place d) ≡ true →
    ((k : ℕ) → k < place → is_name name (get_or (keys_of entries) k d) ≡ false) → IsFirst name entries place
first_at name [] place d within here before = absurd (omega (arith, within))
first_at name (e ∷ es) zero d within here before = here
first_at name (e ∷ es) (suc place) d within here before =
    (before 0 (omega arith), first_at name es place d (omega (arith, within)) here (λ k h. before (suc k) (omega (arith, h))))

-- what a look-up found
pub at_place : (entries : List Entry) (name : List ℕ) (place : ℕ) (old : State) →
    Some place ≡ position (is_name name) (keys_of entries) → slice_get (values_of entries) place ≡ Some old →
    IsAt entries name place old
at_place [] name place old found value = absurd (cc)
at_place (e ∷ es) name place old found value =
    let p = position-Some (is_name name) (keys_of (e ∷ es)) place e.0 (sym found) in
    record { first = first_at name (e ∷ es) place e.0 p.0 p.1 p.2; value = value }

-- the object of a name, as the map looks it up
pub named_is : (entries : List Entry) (name : List ℕ) → named (objects_of entries) name ≡ lookup (is_name name) entries
named_is [] name = refl
named_is (e ∷ es) name = ap (λ o. if is_name name e.0 then Some e.1 else o) (named_is es name)

no_some : {X : Type 0} (o : Option X) → false ≡ is_some o → o ≡ None
no_some None e = refl
no_some (Some x) e = absurd (cc)

-- there is none of a name that is not found
pub named_none : (entries : List Entry) (name : List ℕ) → false ≡ is_some (lookup (is_name name) entries) →
    named (objects_of entries) name ≡ None
named_none entries name none = named_is entries name ∙ no_some (lookup (is_name name) entries) none

named_first : (entries : List Entry) (name : List ℕ) (place : ℕ) (old : State) → IsFirst name entries place
    → slice_get (values_of entries) place ≡ Some old → named (objects_of entries) name ≡ Some old
named_first [] name place old first value = absurd first
named_first (e ∷ es) name zero old first value = ap (λ b. if b then Some e.1 else named (objects_of es) name) first ∙ value
named_first (e ∷ es) name (suc place) old first value =
    ap (λ b. if b then Some e.1 else named (objects_of es) name) first.0 ∙ named_first es name place old first.1 value

pub named_at : {entries : List Entry} {name : List ℕ} {place : ℕ} {old : State} → IsAt entries name place old →
    named (objects_of entries) name ≡ Some old
named_at {entries} {name} {place} {old} at = named_first entries name place old at.first at.value

place_first : (entries : List Entry) (name : List ℕ) (place : ℕ) → IsFirst name entries place →
    place_of (objects_of entries) name ≡ place
place_first [] name place first = absurd first
place_first (e ∷ es) name zero first = ap (λ b. if b then 0 else suc (place_of (objects_of es) name)) first
place_first (e ∷ es) name (suc place) first =
    ap (λ b. if b then 0 else suc (place_of (objects_of es) name)) first.0 ∙ ap suc (place_first es name place first.1)

pub place_at : {entries : List Entry} {name : List ℕ} {place : ℕ} {old : State} → IsAt entries name place old →
    place_of (objects_of entries) name ≡ place
place_at {entries} {name} {place} {old} at = place_first entries name place at.first

-- the objects with one of them changed at its place
changed_first : (entries : List Entry) (name : List ℕ) (place : ℕ) (old : State) (change : State → State) →
    IsFirst name entries place → slice_get (values_of entries) place ≡ Some old →
    objects_of (set_value_at entries place (change old)) ≡ with_changed (objects_of entries) name change
changed_first [] name place old change first value = absurd first
changed_first (e ∷ es) name zero old change first value = cc (same_some e.1 old value)
changed_first (e ∷ es) name (suc place) old change first value = cc (changed_first es name place old change first.1 value, first.0)

pub changed_at : {entries : List Entry} {name : List ℕ} {place : ℕ} {old : State} → IsAt entries name place old →
    (change : State → State) → objects_of (set_value_at entries place (change old)) ≡ with_changed (objects_of entries) name change
changed_at {entries} {name} {place} {old} at change = changed_first entries name place old change at.first at.value

-- what was there may be written back
same_written : (entries : List Entry) (place : ℕ) (old : State) → slice_get (values_of entries) place ≡ Some old →
    set_value_at entries place old ≡ entries
same_written [] place old value = refl
same_written (e ∷ es) zero old value = ap (λ s. (e.0, s) ∷ es) (sym (same_some e.1 old value))
same_written (e ∷ es) (suc place) old value = ap (λ fs. e ∷ fs) (same_written es place old value)

pub same_at : {entries : List Entry} {name : List ℕ} {place : ℕ} {old : State} → IsAt entries name place old →
    set_value_at entries place old ≡ entries
same_at {entries} {name} {place} {old} at = same_written entries place old at.value
