-- All nodes of a cluster with all their objects, and what happens to them.
use Rattle.std.specs.Prelude.{ℕ, ◌==◌, if◌then◌else◌, List, [], ◌∷◌, ◌++◌}
use Rattle.deeds.specs.Named.{NamedLetter}
use Rattle.deeds.specs.Kept.{FileOfNames, KeptNode, new_node}
use Rattle.deeds.specs.Deeds.{Notice}

-- all nodes: what the node of each number keeps, all letters ever sent, and what clients saw, in the order of events
pub record NodeCluster : Type 0 where
  pub nodes : (number : ℕ) → KeptNode
  pub letters : List NamedLetter
  pub notices : List Notice

-- all nodes before the first event, with these cluster files
abbrev pub new_cluster : (files : ℕ → FileOfNames) → NodeCluster
new_cluster files = record {
  nodes = λ number. new_node (files number) number;
  letters = [];
  notices = [];
}

-- what happens: a node handles letters that have come, and then keeps this, has sent these letters, and its clients saw
-- these notices; or a node stops and starts again, and then keeps this
pub data ClusterEvent : Type 0 where
  Handles : (number : ℕ) → (got : List NamedLetter) → (after : KeptNode) → (sent : List NamedLetter) →
      (notices : List Notice) → ClusterEvent
  Restarts : (number : ℕ) → (after : KeptNode) → ClusterEvent

-- what the nodes keep, with this at one of them
abbrev pub with_kept_node : (nodes : ℕ → KeptNode) → (number : ℕ) → KeptNode → (other : ℕ) → KeptNode
with_kept_node nodes number node other = if other == number then node else nodes other

-- all nodes after an event
abbrev pub cluster_after : NodeCluster → ClusterEvent → NodeCluster
cluster_after cluster (ClusterEvent.Handles number got after sent notices) = record {
  nodes = with_kept_node cluster.nodes number after;
  letters = cluster.letters ++ sent;
  notices = cluster.notices ++ notices;
}
cluster_after cluster (ClusterEvent.Restarts number after) =
    record cluster { nodes = with_kept_node cluster.nodes number after }

-- all nodes after these events
abbrev pub cluster_run : List ClusterEvent → NodeCluster → NodeCluster
cluster_run [] cluster = cluster
cluster_run (event ∷ events) cluster = cluster_run events (cluster_after cluster event)
