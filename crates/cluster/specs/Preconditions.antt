-- When a step of one of a cluster's objects may be made.
use Rattle.std.specs.Prelude.{◌≡◌, ℕ, List, Some}
use Rattle.encoder.specs.Fragment.{fragment}
use Rattle.record.specs.Preconditions.{MayStep}
use Rattle.record.specs.Steps.{Step}
use Rattle.register.specs.State.{State}
use Rattle.cluster.specs.Cluster.{Cluster, named}

-- there is an object of this name, and its record says that the step may be made
abbrev pub MayMake : Cluster → (name : List ℕ) → Step → Type 0
MayMake cluster name step =
    (state : State) × (named cluster.objects name ≡ Some state) × MayStep fragment state.object step
