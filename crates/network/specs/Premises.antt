-- The contracts that docs/trusted.md lists do not depend on this file; other contracts and proofs do.
-- The premises of the theorem: what is assumed about the network, about disks, and about how nodes are set up.
use Rattle.std.specs.Prelude.{◌≡◌, ◌≢◌, ℕ, List, [], ◌∷◌, Some, slice_get}
use Rattle.std.specs.List.{AllByRecursion}
use Rattle.mail.specs.declared.message.Message.{Message}
use Rattle.record.specs.Fragments.{Code}
use Rattle.network.specs.Worlds.{ClusterFile, World, after_restart}
use Rattle.network.specs.Events.{Event, MayHappen, happens}

-- a node sent the message
abbrev pub WasSent : World → Message → Type 0
WasSent world message = (place : ℕ) × (slice_get world.sent place ≡ Some message)

-- the network invents and changes no messages: what is served or taken was sent
abbrev pub IsAsSent : World → Event → Type 0
IsAsSent world (Event.Serve message) = WasSent world message
IsAsSent world (Event.Take message) = WasSent world message
IsAsSent world _ = Unit {0}

-- the log gives back what it was told to keep: banks and open moves are as before the node stopped
abbrev pub IsKeptByLog : World → Event → Type 0
IsKeptByLog world (Event.Restart node banks calls) =
    (banks ≡ world.banks) × (calls ≡ after_restart node world.calls)
IsKeptByLog world _ = Unit {0}

-- no call of the history has this id
abbrev pub IsUnused : World → (id : ℕ) → Type 0
IsUnused world id = AllByRecursion (λ entry. entry.call ≢ id) world.history

-- the id of a call that begins is one that no call of the object had
abbrev pub HasNewId : World → Event → Type 0
HasNewId world (Event.BeginRead node id) = IsUnused world id
HasNewId world (Event.BeginWrite node id value) = IsUnused world id
HasNewId world (Event.BeginMove node id layout) = IsUnused world id
HasNewId world _ = Unit {0}

-- all nodes run with the same cluster file; so one node moves objects
abbrev pub IsOneFile : (files : ℕ → ClusterFile) → Type 0
IsOneFile files = (node : ℕ) → files node ≡ files 0

-- the event meets the premises on events
pub record IsPremised (world : World) (event : Event) : Type 0 where
  pub network : IsAsSent world event
  pub log : IsKeptByLog world event
  pub ids : HasNewId world event

-- these events may happen one after another, and meet the premises on events
abbrev pub MayHappenInTurn : Code → List Event → World → Type 0
MayHappenInTurn fragment [] world = Unit {0}
MayHappenInTurn fragment (event ∷ events) world =
    MayHappen fragment world event × IsPremised world event
    × MayHappenInTurn fragment events (happens fragment world event)
