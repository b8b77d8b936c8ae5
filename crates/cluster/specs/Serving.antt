-- The contracts that docs/trusted.md lists do not depend on this file; other contracts and proofs do.
-- What a cluster and a message must be like for a request to be served.
use Rattle.std.specs.Prelude.{◌≡◌, ℕ, Bool, List, Some, slice_get}
use Rattle.mail.specs.declared.message.Message.{Message}
use Rattle.record.specs.Records.{Object, layout_at}
use Rattle.cluster.specs.Cluster.{Cluster}
use Rattle.cluster.specs.Accounts.{banks_all}

-- the cluster has these servers, this number of its last step, and this many bytes in all banks
pub record HasServersAndCounts (cluster : Cluster) (up : List Bool) (last stored : ℕ) : Type 0 where
  pub servers : cluster.servers ≡ up
  pub counter : cluster.counter ≡ last
  pub bytes : banks_all cluster.objects ≡ stored

-- the message at this place, if there is one, goes to this server
abbrev pub GoesTo : Object → (place server : ℕ) → Type 0
GoesTo object place server =
    (message : Message) → slice_get object.mail place ≡ Some message →
    slice_get (layout_at object message.position).members message.member ≡ Some server
