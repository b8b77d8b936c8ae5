-- The contracts that docs/trusted.md lists do not depend on this file; other contracts and proofs do.
-- The cluster with which a soak begins.
use Rattle.std.specs.Prelude.{[], ◌∷◌, None, codes}
use Rattle.cluster.specs.Cluster.{Cluster, all_up}
use Rattle.cluster.specs.Steps.{with_layout, created}

-- a cluster of five servers, all up, without layouts and objects
abbrev pub five_servers : Cluster
five_servers = record { servers = all_up 5; layouts = []; objects = []; counter = 0 }

-- this cluster with the three layouts of a soak
abbrev pub with_layouts : Cluster
with_layouts = with_layout (with_layout (with_layout five_servers
    (record { k = 2; members = 0 ∷ 1 ∷ 2 ∷ 3 ∷ [] })) (record { k = 3; members = 0 ∷ 1 ∷ 2 ∷ 3 ∷ 4 ∷ [] }))
    (record { k = 1; members = 2 ∷ 3 ∷ 4 ∷ [] })

-- that cluster with the objects `a` and `b`, which have the first layout
abbrev pub setting : Cluster
setting = created (created with_layouts (codes "a") 0 None) (codes "b") 0 None
