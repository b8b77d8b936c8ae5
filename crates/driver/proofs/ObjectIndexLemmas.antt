-- An object that is named and looked up once: its index stays, and what refuses the look-up refuses the call.
use Rattle.std.proofs.Common.{◌≡◌, ℕ, suc, ◌<◌, Bool, true, false, bytes_eq, if◌then◌else◌, List, [], ◌∷◌, length, Option, Some, None, inl}
use Rattle.std.proofs.Common.{Result, Ok, Err, IsErrAnd, refl, sym, ap, subst, ◌∙◌}
use Rattle.tag.specs.Refusal.{IsByCause}
use Rattle.tag.specs.declared.refusal.Refusal.{Refusal}
use Rattle.tag.specs.declared.refusal.Refusal.TheVariants.{NoObject}
use Rattle.record.specs.Records.{Object}
use Rattle.record.specs.Steps.{Step}
use Rattle.register.specs.Causes.{number_cause}
use Rattle.register.specs.State.{State, made}
use Rattle.cluster.specs.Cluster.{Named, Cluster, named, with_changed, place_of}
use Rattle.cluster.specs.Causes.{if_object, object_cause}
use Rattle.cluster.specs.Places.{IsObjectAt}
use Rattle.cluster.specs.Steps.{with_step}
use Rattle.driver.specs.Driver.{IsRefused, IsUnfinished}

-- a change of one object changes neither the places of names nor how many objects there are
place_stays : (name : List ℕ) (change : State → State) (objects : List Named) →
    (place_of (with_changed objects name change) name ≡ place_of objects name)
    × (length (with_changed objects name change) ≡ length objects)
place_stays name change [] = (refl, refl)
place_stays name change (o ∷ os) = pick (place_stays name change os) (bytes_eq name o.name) refl
  where
    pick : (place_of (with_changed os name change) name ≡ place_of os name) × (length (with_changed os name change) ≡ length os) →
        (b : Bool) → bytes_eq name o.name ≡ b →
        (place_of (if b then record { name = o.name; state = change o.state } ∷ os else o ∷ with_changed os name change) name
        ≡ (if b then 0 else suc (place_of os name)))
        × (length (if b then record { name = o.name; state = change o.state } ∷ os else o ∷ with_changed os name change) ≡ suc (length os))
    pick rest true is = (ap (λ b. if b then 0 else suc (place_of os name)) is, refl)
    pick rest false is = (
      ap (λ b. if b then 0 else suc (place_of (with_changed os name change) name)) is ∙ ap suc rest.0,
      ap suc rest.1,
    )

-- an object keeps its index in a step
pub index_stays : (old new : Cluster) (name : List ℕ) (object : ℕ) (step : Step) → new ≡ with_step old name step →
    IsObjectAt old name object → IsObjectAt new name object
index_stays old new name object step made_it at =
    let stays = place_stays name (made step (suc old.counter)) old.objects in
    subst (λ (k : Cluster). IsObjectAt k name object) (sym made_it)
    (stays.0 ∙ at.0, subst (λ n. object < n) (sym stays.1) at.1)

-- what refuses a look-up is that there is no object of the name, and it refuses everything else
pub missing : (cluster : Cluster) (name : List ℕ) (e : Refusal) → object_cause cluster name (λ object. None) ≡ Some e →
    (e ≡ NoObject) × ((cause : Object → Option Refusal) → object_cause cluster name cause ≡ Some NoObject)
missing cluster name e refused = go (named cluster.objects name) refl refused
  where
    go : (o : Option State) → named cluster.objects name ≡ o → if_object o (λ object. None) ≡ Some e →
        (e ≡ NoObject) × ((cause : Object → Option Refusal) → object_cause cluster name cause ≡ Some NoObject)
    go None is refused = ((let same : e ≡ NoObject = cc in same), λ cause. ap (λ o. if_object o cause) is)
    go (Some state) is refused = absurd (cc)

pub missing_cause : (cluster : Cluster) (name : List ℕ) (e : Refusal) → object_cause cluster name (λ object. None) ≡ Some e →
    (cause : Object → Option Refusal) → object_cause cluster name cause ≡ Some e
missing_cause cluster name e refused cause = let m = missing cluster name e refused in m.1 cause ∙ ap Some (sym m.0)

pub missing_by : {T : Type 0} (r : Result T Refusal) (e : Refusal) (cause : Option Refusal) → IsErrAnd r (λ y. y ≡ e) → cause ≡ Some e →
    IsByCause cause r
missing_by (Ok x) e cause is some = absurd is
missing_by (Err y) e cause is some = inl (some ∙ ap Some (sym is))

module _ {C : Type 0} (chooses : C → ℕ → ℕ → C → Type 0) (name : List ℕ) (call : ℕ) (cluster : Cluster) (before : C) (e : Refusal)
    (refused : object_cause cluster name (λ object. None) ≡ Some e) where
  pub missing_round : (again : Bool) → IsRefused chooses name call cluster again before before e
  missing_round again =
      let m = missing cluster name e refused in
      subst (λ r. IsRefused chooses name call cluster again before before r) (sym m.0) (refl, m.1 (λ object. number_cause object call))

  pub missing_call : (resumed : Bool) (turns : ℕ) → IsUnfinished chooses name call resumed turns cluster before cluster before e
  missing_call resumed turns =
      let m = missing cluster name e refused in
      subst (λ r. IsUnfinished chooses name call resumed turns cluster before cluster before r) (sym m.0)
      ((refl, refl), m.1 (λ object. number_cause object call))
