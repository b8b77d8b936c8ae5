-- Which clusters a store can have: those that steps lead to, each of which may be made.
use Rattle.std.specs.Prelude.{◌≡◌, ◌≤◌, ◌⊎◌, ℕ, zero, suc, Bool, List, Option, None}
use Rattle.std.specs.List.{AllByRecursion}
use Rattle.layout.specs.Layout.{Layout, IsLawful}
use Rattle.record.specs.Steps.{Step}
use Rattle.cluster.specs.Atomic.{AreSound}
use Rattle.cluster.specs.Causes.{layout_cause, create_cause, server_cause}
use Rattle.cluster.specs.Cluster.{Cluster, layout_numbered}
use Rattle.cluster.specs.Kept.{IsKeptCluster}
use Rattle.cluster.specs.Preconditions.{MayMake}
use Rattle.cluster.specs.Steps.{with_step, with_layout, with_server, created}

-- one step leads from the one cluster to the other, and may be made: a step of an object, which its record allows, or a
-- step of the cluster itself, with a lawful layout, that no cause refuses
abbrev pub IsStep : (old new : Cluster) → Type 0
IsStep old new =
    ((name : List ℕ) × ((step : Step) × (MayMake old name step × (new ≡ with_step old name step))))
    ⊎ (((layout : Layout) × (IsLawful layout × ((layout_cause old layout ≡ None) × (new ≡ with_layout old layout))))
    ⊎ (((name : List ℕ) × ((id : ℕ) × ((delta : Option ℕ) × ((create_cause old name id ≡ None)
    × (IsLawful (layout_numbered old id) × (new ≡ created old name id delta))))))
    ⊎ ((server : ℕ) × ((up : Bool) × ((server_cause old server ≡ None) × (new ≡ with_server old server up))))))

-- this many steps lead from the one cluster to the other
abbrev pub Leads : (count : ℕ) → (first now : Cluster) → Type 0
Leads zero first now = now ≡ first
Leads (suc count) first now = (before : Cluster) × (Leads count first before × IsStep before now)

-- some number of steps leads from the one cluster to the other
abbrev pub IsReachable : (first now : Cluster) → Type 0
IsReachable first now = (count : ℕ) × Leads count first now

-- the record of each object is sound, and its last step is not later than the cluster's
pub record IsSoundCluster (cluster : Cluster) : Type 0 where
  pub records : AreSound cluster
  pub past : AllByRecursion (λ o. o.state.last ≤ cluster.counter) cluster.objects

-- steps that lead to the old cluster can be continued to the new one, which is sound if the old one is
abbrev pub PreservesReachable : (old new : Cluster) → Type 0
PreservesReachable old new =
    ((first : Cluster) → IsReachable first old → IsReachable first new) × (IsSoundCluster old → IsSoundCluster new)

-- a state of a store that was opened with `first`: steps that may be made lead to it, it is sound, and it has what
-- every step keeps
abbrev pub IsStateOf : (first now : Cluster) → Type 0
IsStateOf first now =
    IsReachable first now
    × (IsSoundCluster now × ((bytes : ℕ) × ((count : ℕ) × IsKeptCluster now bytes count)))
