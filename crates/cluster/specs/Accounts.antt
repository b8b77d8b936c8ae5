-- How many bytes of pieces all objects have, and how many calls.
use Rattle.std.specs.Prelude.{ℕ, ◌+◌, List, [], ◌∷◌, length}
use Rattle.record.specs.Accounts.{member_sum}
use Rattle.record.specs.Accounts as of
use Rattle.register.specs.Position.{all_bytes}
use Rattle.cluster.specs.Cluster.{Named, Cluster}

-- the sum of f over all objects
abbrev pub object_sum : (Named → ℕ) → List Named → ℕ
object_sum f [] = 0
object_sum f (object ∷ objects) = f object + object_sum f objects

-- how many bytes of pieces a server stores, over all objects
abbrev pub server_bytes : Cluster → (server : ℕ) → ℕ
server_bytes cluster server = object_sum (λ o. of.stored o.state.object server) cluster.objects

-- how many bytes of pieces all servers store
abbrev pub stored_all : Cluster → ℕ
stored_all cluster = member_sum (server_bytes cluster) 0 (length cluster.servers)

-- how many bytes of pieces the banks of all objects store
abbrev pub banks_all : List Named → ℕ
banks_all objects = object_sum (λ o. all_bytes o.state.object.banks) objects

-- how many bytes of pieces wait in the messages of all objects
abbrev pub waiting_bytes : Cluster → ℕ
waiting_bytes cluster = object_sum (λ o. of.mailed o.state.object) cluster.objects

-- how many calls all objects have together
abbrev pub calls : List Named → ℕ
calls objects = object_sum (λ o. length o.state.object.calls) objects
