-- What holds of each object, as the values of the map give them.
use Rattle.std.proofs.Common.{◌≡◌, List, [], ◌∷◌, sym, subst}
use Rattle.std.specs.List.{AllByRecursion}
use Rattle.std.specs.Map.{values_of}
use Rattle.encoder.specs.Fragment.{fragment}
use Rattle.soundness.specs.Sound.{IsSound}
use Rattle.register.specs.Kept.{IsWithinLimits}
use Rattle.register.specs.State.{State}
use Rattle.cluster.specs.Cluster.{Named}
use Rattle.cluster.proofs.LookupLemmas.{Entry, objects_of}

-- the object is sound and within the limits
pub record IsObjectSound (state : State) : Type 0 where
  pub sound : IsSound fragment state.object state.last
  pub limits : IsWithinLimits state.object

-- what holds of each value holds of each object
all_objects : (P : State → Type 0) (entries : List Entry) → AllByRecursion P (values_of entries) →
    AllByRecursion (λ o. P o.state) (objects_of entries)
all_objects P [] all = tt
all_objects P (e ∷ es) all = (all.0, all_objects P es all.1)

-- it holds of each object once none is left
pub all_done : (P : State → Type 0) (entries : List Entry) (initial left : List State) →
    (AllByRecursion P left → AllByRecursion P initial) → initial ≡ values_of entries → left ≡ [] →
    AllByRecursion (λ o. P o.state) (objects_of entries)
all_done P entries initial left whole start done =
    all_objects P entries
    (subst (λ (values : List State). AllByRecursion P values) start
    (whole (subst (λ (values : List State). AllByRecursion P values) (sym done) tt)))

-- what holds of each object, in a weaker form
pub all_weaker : (P Q : State → Type 0) → ((s : State) → P s → Q s) → (objects : List Named) →
    AllByRecursion (λ o. P o.state) objects → AllByRecursion (λ o. Q o.state) objects
all_weaker P Q weaker [] all = tt
all_weaker P Q weaker (o ∷ os) all = (weaker o.state all.0, all_weaker P Q weaker os all.1)
