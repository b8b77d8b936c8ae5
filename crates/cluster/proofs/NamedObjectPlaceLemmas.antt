-- The object of a name at its index, as a look-up finds it, and as its methods read it.
use Rattle.std.proofs.Common.{◌≡◌, ℕ, zero, suc, ◌+◌, ◌<◌, Bool, true, false, not, cond, if◌then◌else◌, List, [], ◌∷◌, length, slice_get}
use Rattle.std.proofs.Common.{Option, Some, String, Global, bytes_eq, position, refl, sym, ap, subst, ◌∙◌, arith}
use Rattle.std.specs.List.{position_or_len}
use Rattle.std.specs.Prelude.{option_map}
use Rattle.std.specs.String.{string_bytes}
use Rattle.std.specs.Map.{keys_of, values_of}
use Rattle.std.proofs.lemmas.Bool.{lt-ltb}
use Rattle.std.proofs.lemmas.Option.{slice_get-map}
use Rattle.std.proofs.lemmas.Slice.Eq.{bytes_eq-Decides}
use Rattle.layout.specs.Layout.{Layout}
use Rattle.register.specs.State.{State}
use Rattle.soundness.proofs.ListLemmas.{all_get}
use Rattle.register.proofs.ListLemmas.{length_map, same_some}
use Rattle.cluster.specs.Cluster.{Cluster, Named, named, place_of}
use Rattle.cluster.specs.Kept.{AreNamedApart, IsKeptCluster}
use Rattle.cluster.specs.Places.{IsObjectAt}
use Rattle.cluster.proofs.LookupLemmas.{Entry, IsAt, is_name, object_of, objects_of, at_place, place_at}
use Rattle.cluster.proofs.ObjectStepLemmas.{cluster_of}

-- a look-up of a name in the map gives the name's place
place_is : (name : List ℕ) (entries : List Entry) →
    position_or_len (is_name name) (keys_of entries) ≡ place_of (objects_of entries) name
place_is name [] = refl
place_is name (e ∷ es) = pick (is_name name e.0) (place_is name es)
  where
    pick : (b : Bool) → position_or_len (is_name name) (keys_of es) ≡ place_of (objects_of es) name →
        cond (not b) (1 + position_or_len (is_name name) (keys_of es)) 0
        ≡ (if b then 0 else suc (place_of (objects_of es) name))
    pick true rest = refl
    pick false rest = omega (arith, rest)

found_place : (keys : List (String Global)) (name : List ℕ) (place : ℕ) → position_or_len (is_name name) keys ≡ place
    → place < length keys → Some place ≡ position (is_name name) keys
found_place keys name place is within = cc (lt-ltb place (length keys) within)

-- there is an object of a name that has an index
named_within : (name : List ℕ) (objects : List Named) → place_of objects name < length objects
    → (state : State) × (named objects name ≡ Some state)
named_within name [] within = absurd (omega (arith, within))
named_within name (o ∷ os) within = pick (λ h. named_within name os h) (bytes_eq name o.name) within
  where
    pick : (place_of os name < length os → (state : State) × (named os name ≡ Some state)) → (b : Bool)
        → (if b then 0 else suc (place_of os name)) < length (o ∷ os)
        → (state : State) × ((if b then Some o.state else named os name) ≡ Some state)
    pick rest true within = (o.state, refl)
    pick rest false within = rest (omega (arith, within))

pub object_there : (now : Cluster) (name : List ℕ) (place : ℕ) → IsObjectAt now name place
    → (state : State) × (named now.objects name ≡ Some state)
object_there now name place at = named_within name now.objects (subst (λ n. n < length now.objects) (sym at.0) at.1)

-- an object that has this name is at the name's place, since no two objects have the same name
named_apart : (name : List ℕ) (objects : List Named) (place : ℕ) (o : Named) → AreNamedApart objects
    → slice_get objects place ≡ Some o → bytes_eq name o.name ≡ true → (place_of objects name ≡ place) × (place < length objects)
named_apart name [] place o apart at is = absurd (cc)
named_apart name (x ∷ xs) zero o apart at is = (
  ap (λ b. if b then 0 else suc (place_of xs name)) (ap (λ (n : Named). bytes_eq name n.name) (same_some x o at) ∙ is),
  omega arith,
)
named_apart name (x ∷ xs) (suc place) o apart at is =
    let rest = named_apart name xs place o apart.1 at is in
    let within = rest.1 in
    let other : bytes_eq x.name o.name ≡ false =
    all_get (λ (n : Named). bytes_eq x.name n.name ≡ false) xs place o apart.0 at in
    (ap (λ b. if b then 0 else suc (place_of xs name)) (differs (bytes_eq name x.name) refl other) ∙ ap suc rest.0, omega (arith, within))
  where
    differs : (b : Bool) → bytes_eq name x.name ≡ b → bytes_eq x.name o.name ≡ false → bytes_eq name x.name ≡ false
    differs false here other = here
    differs true here other =
        let same : name ≡ x.name = (bytes_eq-Decides name x.name).0 here in
        let clash : true ≡ false = sym is ∙ ap (λ n. bytes_eq n o.name) same ∙ other in absurd (cc)

module _ {servers : List Bool} {layouts : List Layout} {counter : ℕ} {now : Cluster} (entries : List Entry) (name : List ℕ)
    (place : ℕ) (same : cluster_of servers layouts entries counter ≡ now) where
  -- the index is one of an entry
  pub index_within : IsObjectAt now name place → place < length entries
  index_within at = subst (λ n. place < n)
      (ap (λ (k : Cluster). length k.objects) (sym same) ∙ length_map object_of entries) at.1

  -- the object at the index of its name
  pub object_is_at : (old : State) → IsObjectAt now name place → slice_get (values_of entries) place ≡ Some old
      → IsAt entries name place old
  object_is_at old at value =
      at_place entries name place old
      (found_place (keys_of entries) name place
      (place_is name entries ∙ ap (λ (k : Cluster). place_of k.objects name) same ∙ at.0)
      (subst (λ n. place < n) (sym (length_map (λ (e : Entry). e.0) entries)) (index_within at)))
      value

  -- what a look-up found is at its index
  pub at_object : {old : State} → IsAt entries name place old → place < length entries → IsObjectAt now name place
  at_object at within = (
    ap (λ (k : Cluster). place_of k.objects name) (sym same) ∙ place_at at,
    subst (λ n. place < n) (sym (length_map object_of entries) ∙ ap (λ (k : Cluster). length k.objects) same) within,
  )

  -- the object at an index has the name that its entry has
  pub named_here : {bytes count : ℕ} → IsKeptCluster (cluster_of servers layouts entries counter) bytes count → (e : Entry)
      → Some e ≡ slice_get entries place → bytes_eq name (string_bytes e.0) ≡ true → IsObjectAt now name place
  named_here kept e found is =
      subst (λ (k : Cluster). IsObjectAt k name place) same
      (named_apart name (objects_of entries) place (object_of e) kept.apart
      (slice_get-map object_of entries place ∙ ap (λ (x : Option Entry). option_map object_of x) (sym found)) is)
