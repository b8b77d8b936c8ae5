-- A cluster: all objects, the layouts that they may have, and the servers.
use Rattle.std.specs.Prelude.{ℕ, zero, suc, Bool, true, false, refl, List, [], ◌∷◌, Option}
use Rattle.std.specs.Prelude.{Some, None, if◌then◌else◌, bytes_eq, get_or, slice_get}
use Rattle.std.specs.Coded.{Coded, code_by, coded×, coded_list, coded_ℕ, coded_bool}
use Rattle.layout.specs.Layout.{Layout}
use Rattle.mail.specs.declared.message.Message.{Message}
use Rattle.record.specs.Records.{Object, layout_at, no_layout}
use Rattle.register.specs.State.{State, next_id}

-- an object with its name, which is a list of bytes
pub record Named : Type 0 where
  pub name : List ℕ
  pub state : State

-- a cluster: whether each server is up, the layouts by their numbers, the objects in order of creation, and the number
-- of the last step
pub record Cluster : Type 0 where
  pub servers : List Bool
  pub layouts : List Layout
  pub objects : List Named
  pub counter : ℕ

-- how an object with its name is encoded: as the pair of both
abbrev pub named_code : Coded State → Coded Named
named_code state = code_by (List ℕ × State) (coded× (coded_list coded_ℕ) state)
    (λ o. (o.name, o.state)) (λ p. record { name = p.0; state = p.1 }) (λ _. refl)

-- how a cluster is encoded: as the tuple of its parts
abbrev pub cluster_code : Coded Layout → Coded State → Coded Cluster
cluster_code layout state =
    code_by (List Bool × (List Layout × (List Named × ℕ)))
    (coded× (coded_list coded_bool) (coded× (coded_list layout) (coded× (coded_list (named_code state)) coded_ℕ)))
    (λ c. (c.servers, (c.layouts, (c.objects, c.counter))))
    (λ p. record { servers = p.0; layouts = p.1.0; objects = p.1.1.0; counter = p.1.1.1 }) (λ _. refl)

-- the object of this name; none if no object has it
abbrev pub named : List Named → List ℕ → Option State
named [] name = None
named (object ∷ objects) name = if bytes_eq name object.name then Some object.state else named objects name

-- the objects, with the state of the object of this name changed
abbrev pub with_changed : List Named → List ℕ → (State → State) → List Named
with_changed [] name change = []
with_changed (object ∷ objects) name change =
    if bytes_eq name object.name then record { name = object.name; state = change object.state } ∷ objects
    else object ∷ with_changed objects name change

-- the place of the object of this name, in order of creation
abbrev pub place_of : List Named → List ℕ → ℕ
place_of [] name = 0
place_of (object ∷ objects) name = if bytes_eq name object.name then 0 else suc (place_of objects name)

-- what is read from an object; none if there is no object
abbrev pub if_some : {X : Type 0} → Option State → (Object → Option X) → Option X
if_some None read = None
if_some (Some state) read = read state.object

-- what is read from the object of this name; none if no object has it
abbrev pub if_named : {X : Type 0} → Cluster → (name : List ℕ) → (Object → Option X) → Option X
if_named cluster name read = if_some (named cluster.objects name) read

-- the id of the next call of an object, which is its number; 0 if there is no object
abbrev pub next_id_in : Option State → ℕ
next_id_in None = 0
next_id_in (Some state) = next_id state.object

-- the id of the next call of the object of this name; 0 if no object has it
abbrev pub next_call_id : Cluster → (name : List ℕ) → ℕ
next_call_id cluster name = next_id_in (named cluster.objects name)

-- the layout of this number; the layout without members if there is none
abbrev pub layout_numbered : Cluster → (id : ℕ) → Layout
layout_numbered cluster id = get_or cluster.layouts id no_layout

-- this many servers, all up
abbrev pub all_up : (count : ℕ) → List Bool
all_up zero = []
all_up (suc count) = true ∷ all_up count

-- whether a server is there and up
abbrev pub is_up : Cluster → Option ℕ → Bool
is_up cluster None = false
is_up cluster (Some server) = get_or cluster.servers server false

-- whether the server of the member that a message names is up
abbrev pub is_reached : Cluster → Object → Message → Bool
is_reached cluster object message = is_up cluster (slice_get (layout_at object message.position).members message.member)
