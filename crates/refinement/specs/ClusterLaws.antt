-- The laws: if each node acts by what it keeps itself, all nodes together keep the promise for each object.
use Rattle.std.specs.Prelude.{◌≡◌, ℕ, List}
use Rattle.record.specs.declared.call.Entry.{Entry}
use Rattle.record.specs.Fragments.{Code, IsCode}
use Rattle.atomicity.specs.Atomic.{IsAtomic}
use Rattle.letter.specs.declared.letter.Letter.{Letter}
use Rattle.refinement.specs.Systems.{IsReachedSystem, System, WasPosted}
use Rattle.refinement.specs.SystemValues.{KeepsValuesIn}
use Rattle.deeds.specs.Named.{IsOneOf}
use Rattle.refinement.specs.Clusters.{NodeCluster}
use Rattle.refinement.specs.Premises.{IsReachedCluster}
use Rattle.refinement.specs.Histories.{IsHistoryOf}
use Rattle.refinement.specs.SeenHistories.{IsHistoryOfSeen}

-- the system has the cluster's nodes for the object of this name: each node keeps the same of the object, each letter
-- about it is one that the system's nodes sent, and the history is the one of what clients saw
pub record IsSystemOf (cluster : NodeCluster) (name : List ℕ) (system : System) : Type 0 where
  pub objects : (number : ℕ) → system.objects number ≡ (cluster.nodes number).objects name
  pub letters : (letter : Letter) → IsOneOf cluster.letters (record { name = name; letter = letter }) →
      WasPosted system letter
  pub history : IsHistoryOf name cluster.notices system.history

-- for each name, there is a reached system of nodes for this object, which are the cluster's nodes
abbrev pub ClustersHaveSystems : Type 0
ClustersHaveSystems = (fragment : Code) (cluster : NodeCluster) → IsReachedCluster fragment cluster → (name : List ℕ) →
    (system : System) × IsReachedSystem fragment system × IsSystemOf cluster name system

-- the history of each object, by what clients saw, is atomic
abbrev pub ClustersAreAtomic : Type 0
ClustersAreAtomic = (fragment : Code) (cluster : NodeCluster) → IsCode fragment → IsReachedCluster fragment cluster →
    (name : List ℕ) → (history : List Entry) × IsHistoryOf name cluster.notices history × IsAtomic history

-- for each name, there is an atomic history of what clients saw
abbrev pub SeenHistoriesAreAtomic : Type 0
SeenHistoriesAreAtomic = (fragment : Code) (cluster : NodeCluster) → IsCode fragment →
    IsReachedCluster fragment cluster → (name : List ℕ) →
    (history : List Entry) × IsHistoryOfSeen name cluster.notices history × IsAtomic history

-- the nodes keep the values of tags, for each object
abbrev pub ClustersKeepValues : Type 0
ClustersKeepValues = (fragment : Code) (cluster : NodeCluster) → IsCode fragment → IsReachedCluster fragment cluster →
    (name : List ℕ) → (system : System) × IsSystemOf cluster name system × KeepsValuesIn fragment system
