-- What all nodes of a cluster agree on.
use Rattle.std.specs.Prelude.{ℕ, ◌≤◌, ◌++◌, ◌||◌, IsTrue, List, length, nat_eq, Option}
use Rattle.std.specs.List.{IsDistinct}
use Rattle.layout.specs.Quorum.{has}
use Rattle.cluster_file.specs.Placement.{ClusterNodes, AreLawfulNodes}
use Rattle.tag.specs.declared.limits.TheConstants.{MOST_SERVERS}

-- what is fixed when the cluster is first started: the nodes among which placement chooses, the n and the k of a name's
-- first layout, the bound delta of its banks, and the node that moves objects
pub record Fixed : Type 0 where
  pub nodes : List ℕ
  pub n : ℕ
  pub k : ℕ
  pub delta : Option ℕ
  pub mover : ℕ

-- what a cluster file has: the fixed settings, the nodes that joined later, and the ticks after which a call is given
-- up
pub record FileContents : Type 0 where
  pub fixed : Fixed
  pub later : List ℕ
  pub ticks : ℕ

-- the nodes among which placement chooses, with k and n
abbrev pub placement_of : Fixed → ClusterNodes
placement_of fixed = record { k = fixed.k; n = fixed.n; nodes = fixed.nodes }

-- no node of the two lists is named twice, and together they are at most MOST_SERVERS
pub record AreApart (nodes later : List ℕ) : Type 0 where
  pub distinct : IsDistinct nat_eq (nodes ++ later)
  pub few : length (nodes ++ later) ≤ MOST_SERVERS

-- a file is lawful: placement takes its nodes with k and n, no node is named twice, the mover is one of the nodes or
-- one of those that joined later, and a call gets at least one tick
pub record IsLawfulFile (file : FileContents) : Type 0 where
  pub placed : AreLawfulNodes (placement_of file.fixed)
  pub nodes : AreApart file.fixed.nodes file.later
  pub mover : IsTrue (has file.fixed.nodes file.fixed.mover || has file.later file.fixed.mover)
  pub ticks : 1 ≤ file.ticks
