-- What a change of one object changes of the objects: of a sum over them, of what holds of each, and of their names.
use Rattle.std.proofs.Common.{◌≡◌, ℕ, ◌+◌, Bool, true, false, if◌then◌else◌}
use Rattle.std.proofs.Common.{List, [], ◌∷◌, Some, bytes_eq, ap, subst, sym, arith}
use Rattle.std.specs.List.{AllByRecursion}
use Rattle.register.specs.State.{State}
use Rattle.register.proofs.ListLemmas.{same_some}
use Rattle.cluster.specs.Cluster.{Named, named, with_changed}
use Rattle.cluster.specs.Accounts.{object_sum}
use Rattle.cluster.specs.Kept.{AreNamedApart}

module _ (name : List ℕ) (change : State → State) (old : State) where
  -- this much less, and this much more
  pub sum_changed : (g : State → ℕ) (objects : List Named) → named objects name ≡ Some old
      → object_sum (λ o. g o.state) (with_changed objects name change) + g old ≡ object_sum (λ o. g o.state) objects + g (change old)
  sum_changed g [] here = absurd (cc)
  sum_changed g (o ∷ os) here = pick (bytes_eq name o.name) (λ h. sum_changed g os h) here
    where
      pick : (b : Bool) → (named os name ≡ Some old → object_sum (λ o. g o.state) (with_changed os name change) + g old
          ≡ object_sum (λ o. g o.state) os + g (change old)) → (if b then Some o.state else named os name) ≡ Some old →
          object_sum (λ o. g o.state) (if b then record { name = o.name; state = change o.state } ∷ os else o ∷ with_changed os name change)
          + g old ≡ (g o.state + object_sum (λ o. g o.state) os) + g (change old)
      pick true later here =
          let same : o.state ≡ old = same_some o.state old here in
          let before : g o.state ≡ g old = ap g same in
          let after : g (change o.state) ≡ g (change old) = ap (λ s. g (change s)) same in
          omega (arith, before, after)
      pick false later here = let rest = later here in omega (arith, rest)

  -- what holds of each object, where the change keeps it
  pub all_changed : (P : Named → Type 0) (objects : List Named) → named objects name ≡ Some old →
      ((n : List ℕ) → P (record { name = n; state = old }) → P (record { name = n; state = change old })) →
      AllByRecursion P objects → AllByRecursion P (with_changed objects name change)
  all_changed P [] here keeps all = tt
  all_changed P (o ∷ os) here keeps all = pick (bytes_eq name o.name) (λ h. all_changed P os h keeps all.1) here
    where
      pick : (b : Bool) → (named os name ≡ Some old → AllByRecursion P (with_changed os name change)) →
          (if b then Some o.state else named os name) ≡ Some old →
          AllByRecursion P (if b then record { name = o.name; state = change o.state } ∷ os else o ∷ with_changed os name change)
      pick true later here =
          let same : o.state ≡ old = same_some o.state old here in (
            subst (λ (s : State). P (record { name = o.name; state = change s })) (sym same)
                (keeps o.name (subst (λ (s : State). P (record { name = o.name; state = s })) same all.0)),
            all.1,
          )
      pick false later here = (all.0, later here)

  -- what holds of the object of a name, as of each
  pub all_named : (P : Named → Type 0) (objects : List Named) → named objects name ≡ Some old → AllByRecursion P objects
      → (n : List ℕ) × P (record { name = n; state = old })
  all_named P [] here all = absurd (cc)
  all_named P (o ∷ os) here all = pick (bytes_eq name o.name) (λ h. all_named P os h all.1) here
    where
      pick : (b : Bool) → (named os name ≡ Some old → (n : List ℕ) × P (record { name = n; state = old }))
          → (if b then Some o.state else named os name) ≡ Some old → (n : List ℕ) × P (record { name = n; state = old })
      pick true later here = (o.name, subst (λ (s : State). P (record { name = o.name; state = s })) (same_some o.state old here) all.0)
      pick false later here = later here

  -- names stay
  pub apart_changed : (objects : List Named) → named objects name ≡ Some old → AreNamedApart objects →
      AreNamedApart (with_changed objects name change)
  apart_changed [] here apart = tt
  apart_changed (o ∷ os) here apart = pick (bytes_eq name o.name) (λ h. apart_changed os h apart.1) here
    where
      pick : (b : Bool) → (named os name ≡ Some old → AreNamedApart (with_changed os name change)) →
          (if b then Some o.state else named os name) ≡ Some old →
          AreNamedApart (if b then record { name = o.name; state = change o.state } ∷ os else o ∷ with_changed os name change)
      pick true later here = (apart.0, apart.1)
      pick false later here = (all_changed (λ other. bytes_eq o.name other.name ≡ false) os here (λ n e. e) apart.0, later here)
