-- The laws: a cluster of node programs is, at each moment, a cluster of nodes as `refinement` defines it.
use Rattle.std.specs.Prelude.{◌≡◌, ◌⊎◌, ◌<◌, ◌≤◌, ℕ, true, List, [], ◌∷◌, Some, slice_get}
use Rattle.encoder.specs.Fragment.{fragment}
use Rattle.record.specs.declared.call.Entry.{Entry}
use Rattle.atomicity.specs.Atomic.{IsAtomic}
use Rattle.deeds.specs.Deeds.{Notice}
use Rattle.deeds.specs.Kept.{FileOfNames}
use Rattle.refinement.specs.Clusters.{ClusterEvent, NodeCluster, cluster_after, new_cluster}
use Rattle.refinement.specs.ClusterLaws.{IsSystemOf}
use Rattle.refinement.specs.Histories.{IsHistoryOf}
use Rattle.refinement.specs.SeenHistories.{IsHistoryOfSeen}
use Rattle.refinement.specs.Premises.{IsKeptByItsLog, IsNodeEvent, IsReachedCluster, LettersAreAsSent}
use Rattle.refinement.specs.SystemValues.{KeepsValuesIn}
use Rattle.refinement.specs.Systems.{System}
use Rattle.processes.specs.Letters.{CarryLetters}
use Rattle.processes.specs.Events.{ProcessEvent, call_begun, is_begun, is_told, processes_after}
use Rattle.processes.specs.Processes.{Processes, new_processes}
use Rattle.processes.specs.Runs.{AreReached, MayAllHappenTo}

-- What the clients of the cluster saw is what those of the processes saw: each call of the cluster began at a client of
-- the processes, at this place among the things that they saw, and no later call there began with its id. What they
-- were told, the clients of the cluster were told too, and before each call that began later.
pub record IsClusterOf (processes : Processes) (cluster : NodeCluster) : Type 0 where
  pub place : ℕ → ℕ
  pub begun : (index : ℕ) (notice : Notice) → slice_get cluster.notices index ≡ Some notice →
      is_begun notice ≡ true → slice_get processes.seen (place index) ≡ Some notice
  pub last : (index at id : ℕ) (call other : Notice) → slice_get cluster.notices index ≡ Some call →
      call_begun call ≡ Some id → slice_get processes.seen at ≡ Some other → call_begun other ≡ Some id →
      at ≤ place index
  pub told : (at : ℕ) (notice : Notice) → slice_get processes.seen at ≡ Some notice → is_told notice ≡ true →
      (index : ℕ) × (slice_get cluster.notices index ≡ Some notice)
      × ((other : ℕ) (call : Notice) → slice_get cluster.notices other ≡ Some call → is_begun call ≡ true →
      at < place other → index < other)

-- the cluster stays as it is, or one event happens to it, which is one of nodes that act as they have to
abbrev pub IsNext : (cluster next : NodeCluster) → Type 0
IsNext cluster next = (next ≡ cluster)
    ⊎ ((event : ClusterEvent) × IsNodeEvent fragment cluster event × LettersAreAsSent cluster event
    × IsKeptByItsLog cluster event × (next ≡ cluster_after cluster event))

-- Beside the processes goes a cluster, from this one to the last one: before and after each event of the processes, it
-- is a cluster of theirs, and at each event, at most one event happens to it.
abbrev pub GoesBeside : List ProcessEvent → Processes → (cluster last : NodeCluster) → Type 0
GoesBeside [] processes cluster last = IsClusterOf processes cluster × (last ≡ cluster)
GoesBeside (event ∷ events) processes cluster last =
    IsClusterOf processes cluster × (next : NodeCluster) × IsNext cluster next
    × GoesBeside events (processes_after processes event) next last

-- beside each run of processes goes a cluster, from new nodes on
abbrev pub ProcessesHaveClusters : Type 0
ProcessesHaveClusters = (names : FileOfNames) (events : List ProcessEvent) → MayAllHappenTo names events new_processes →
    (last : NodeCluster) × GoesBeside events new_processes (new_cluster (λ number. names)) last

-- Whatever the processes of a cluster do and wherever they stop, there is a reached cluster of theirs. So for each name
-- there is an atomic history which has each answer that a client was told, and only calls that clients began; and what
-- was answered before a call began comes before that call.
abbrev pub ProcessesAreAtomic : Type 0
ProcessesAreAtomic = (processes : Processes) → AreReached processes → (name : List ℕ) →
    (cluster : NodeCluster) × (history : List Entry) × IsReachedCluster fragment cluster
    × IsClusterOf processes cluster × IsHistoryOf name cluster.notices history × IsAtomic history

-- Whatever the processes of a cluster do and wherever they stop, for each name there is an atomic history of what their
-- clients saw.
abbrev pub ClientsSeeAtomicHistories : Type 0
ClientsSeeAtomicHistories = (processes : Processes) → AreReached processes → (name : List ℕ) →
    (history : List Entry) × IsHistoryOfSeen name processes.seen history × IsAtomic history

-- Each frame that a process wrote carries a letter of that cluster, and the cluster keeps the values of tags: for each
-- name, a tag has one value, and each piece in a letter is its member's fragment of its tag's value.
abbrev pub ProcessesKeepValues : Type 0
ProcessesKeepValues = (processes : Processes) → AreReached processes →
    (cluster : NodeCluster) × IsReachedCluster fragment cluster × IsClusterOf processes cluster
    × CarryLetters processes cluster.letters
    × ((name : List ℕ) → (system : System) × IsSystemOf cluster name system × KeepsValuesIn fragment system)
