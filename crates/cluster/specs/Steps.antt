-- What each step changes in a cluster. Each step raises the counter by one.
use Rattle.std.specs.Prelude.{ℕ, suc, Bool, List, [], ◌∷◌, ◌++◌, Option, slice_set}
use Rattle.layout.specs.Layout.{Layout}
use Rattle.record.specs.Steps.{Step, opened_object}
use Rattle.register.specs.State.{made}
use Rattle.cluster.specs.Cluster.{Cluster, next_call_id, with_changed, layout_numbered}

-- the cluster after a step of the object of this name
abbrev pub with_step : Cluster → (name : List ℕ) → Step → Cluster
with_step cluster name step =
    record cluster {
      objects = with_changed cluster.objects name (made step (suc cluster.counter));
      counter = suc cluster.counter;
    }

-- the cluster after one more layout is added
abbrev pub with_layout : Cluster → Layout → Cluster
with_layout cluster layout =
    record cluster { layouts = cluster.layouts ++ layout ∷ []; counter = suc cluster.counter }

-- the cluster after one more object is created with this layout; its banks keep `delta` finalized versions besides the
-- newest
abbrev pub with_object : Cluster → (name : List ℕ) → Layout → (delta : Option ℕ) → Cluster
with_object cluster name layout delta = record cluster {
  objects = cluster.objects ++ record {
    name = name;
    state = record { object = opened_object layout delta (suc cluster.counter); last = suc cluster.counter };
  } ∷ [];
  counter = suc cluster.counter;
}

-- the cluster after a server goes up or down
abbrev pub with_server : Cluster → (server : ℕ) → (up : Bool) → Cluster
with_server cluster server up =
    record cluster { servers = slice_set cluster.servers server up; counter = suc cluster.counter }

-- the cluster after a move of the object of this name to the layout of this number begins
abbrev pub moved : Cluster → (name : List ℕ) → (id : ℕ) → Cluster
moved cluster name id = with_step cluster name (Step.CallMove (next_call_id cluster name) (layout_numbered cluster id))

-- the cluster after an object of this name is created with the layout of this number and this `delta`
abbrev pub created : Cluster → (name : List ℕ) → (id : ℕ) → (delta : Option ℕ) → Cluster
created cluster name id delta = with_object cluster name (layout_numbered cluster id) delta
