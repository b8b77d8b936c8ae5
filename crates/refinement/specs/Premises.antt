-- The premises of the laws: what is assumed of the network, of disks, and of how nodes are set up. Besides these, only
-- one process at a time uses a node number: a cluster has one node for each number.
use Rattle.std.specs.Prelude.{◌≡◌, ℕ, List, [], ◌∷◌}
use Rattle.std.specs.List.{AllByRecursion}
use Rattle.layout.specs.Layout.{IsLawful}
use Rattle.record.specs.Fragments.{Code}
use Rattle.deeds.specs.Named.{IsOneOf}
use Rattle.deeds.specs.Kept.{FileOfNames}
use Rattle.deeds.specs.Handled.{IsHandled}
use Rattle.deeds.specs.Restarts.{IsRestarted}
use Rattle.refinement.specs.Clusters.{NodeCluster, ClusterEvent, cluster_after, cluster_run, new_cluster}

-- the network invents and changes no letters: what comes was sent
abbrev pub LettersAreAsSent : NodeCluster → ClusterEvent → Type 0
LettersAreAsSent cluster (ClusterEvent.Handles number got after sent notices) =
    AllByRecursion (IsOneOf cluster.letters) got
LettersAreAsSent cluster (ClusterEvent.Restarts number after) = Unit {0}

-- the log gives back what it was told to keep
abbrev pub IsKeptByItsLog : NodeCluster → ClusterEvent → Type 0
IsKeptByItsLog cluster (ClusterEvent.Handles number got after sent notices) = Unit {0}
IsKeptByItsLog cluster (ClusterEvent.Restarts number after) = IsRestarted (cluster.nodes number) after

-- all nodes run with the same cluster file
abbrev pub HaveOneFile : (files : ℕ → FileOfNames) → Type 0
HaveOneFile files = (number : ℕ) → files number ≡ files 0

-- the node handles letters that have come, as `IsHandled` says
abbrev pub IsNodeEvent : Code → NodeCluster → ClusterEvent → Type 0
IsNodeEvent fragment cluster (ClusterEvent.Handles number got after sent notices) =
    IsHandled fragment (cluster.nodes number) got after sent notices
IsNodeEvent fragment cluster (ClusterEvent.Restarts number after) = Unit {0}

-- these events happen one after another: nodes act as `IsHandled` says, and the premises on the network and on disks
-- hold
abbrev pub AreNodeEvents : Code → List ClusterEvent → NodeCluster → Type 0
AreNodeEvents fragment [] cluster = Unit {0}
AreNodeEvents fragment (event ∷ events) cluster =
    IsNodeEvent fragment cluster event × LettersAreAsSent cluster event × IsKeptByItsLog cluster event
    × AreNodeEvents fragment events (cluster_after cluster event)

-- the nodes have reached this state from new ones, which have one cluster file with lawful layouts
pub record IsReachedCluster (fragment : Code) (cluster : NodeCluster) : Type 0 where
  pub files : (number : ℕ) → FileOfNames
  pub one : HaveOneFile files
  pub lawful : (name : List ℕ) → IsLawful ((files 0).first name)
  pub events : List ClusterEvent
  pub may : AreNodeEvents fragment events (new_cluster files)
  pub result : cluster_run events (new_cluster files) ≡ cluster
