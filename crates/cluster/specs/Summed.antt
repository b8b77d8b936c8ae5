-- The running sums of a cluster, with the invariant that every step keeps.
use Rattle.std.specs.Prelude.{◌≡◌, ℕ, zero, suc, ◌*◌, ◌≤◌}
use Rattle.std.specs.Prelude.{◌<◌, List, [], ◌∷◌, length, get_or}
use Rattle.std.specs.List.{AllByRecursion}
use Rattle.tag.specs.declared.limits.TheConstants.{LONGEST_VALUE, MOST_MESSAGES}
use Rattle.record.specs.Accounts as of
use Rattle.cluster.specs.Accounts as all
use Rattle.cluster.specs.Cluster.{Cluster}
use Rattle.cluster.specs.Kept.{IsKeptCluster}

-- a zero for each of this many servers
abbrev pub all_none : (count : ℕ) → List ℕ
all_none zero = []
all_none (suc count) = 0 ∷ all_none count

-- the running sums `waiting` and `loads` equal the bytes in messages and the bytes that each server stores, and the
-- bytes that wait for each object are within the limit
pub record AreSummed (cluster : Cluster) (waiting : ℕ) (loads : List ℕ) : Type 0 where
  pub mailed : waiting ≡ all.waiting_bytes cluster
  pub few : AllByRecursion (λ o. of.mailed o.state.object ≤ MOST_MESSAGES * LONGEST_VALUE) cluster.objects
  pub servers : length loads ≡ length cluster.servers
  pub stored : (server : ℕ) → server < length cluster.servers →
      get_or loads server 0 ≡ all.server_bytes cluster server

-- the invariant of a cluster and of its running sums
pub record IsCounted (cluster : Cluster) (bytes count waiting : ℕ) (loads : List ℕ) : Type 0 where
  pub kept : IsKeptCluster cluster bytes count
  pub summed : AreSummed cluster waiting loads
