-- Objects by their index in the order of creation.
use Rattle.std.specs.Prelude.{◌≡◌, ◌<◌, ℕ, List, length, Option, option_map, slice_get}
use Rattle.tag.specs.declared.refusal.Refusal.{Refusal}
use Rattle.record.specs.Records.{Object}
use Rattle.register.specs.State.{State}
use Rattle.cluster.specs.Cluster.{Named, Cluster, if_some, place_of}
use Rattle.cluster.specs.Causes.{if_object}

-- the object at this index; none if there is none
abbrev pub object_at : List Named → (place : ℕ) → Option State
object_at objects place = option_map (λ o. o.state) (slice_get objects place)

-- what is read from the object at this index; none if there is no object
abbrev pub if_placed : {X : Type 0} → Cluster → (place : ℕ) → (Object → Option X) → Option X
if_placed cluster place read = if_some (object_at cluster.objects place) read

-- NoObject if there is no object at this index; otherwise the cause that is read from it
abbrev pub placed_cause : Cluster → (place : ℕ) → (Object → Option Refusal) → Option Refusal
placed_cause cluster place cause = if_object (object_at cluster.objects place) cause

-- the object of this name is the one at this index
abbrev pub IsObjectAt : Cluster → (name : List ℕ) → (object : ℕ) → Type 0
IsObjectAt cluster name object = (place_of cluster.objects name ≡ object) × (object < length cluster.objects)
