-- The contracts that docs/trusted.md lists do not depend on this file; other contracts and proofs do.
-- A wrong rule: two processes run under one number, each with a log and banks of its own. All other premises stay.
use Rattle.std.specs.Prelude.{ℕ, suc, ◌==◌, if◌then◌else◌, List, [], ◌∷◌, ◌++◌, map}
use Rattle.layout.specs.Layout.{Layout}
use Rattle.bank.specs.Bank.{Bank}
use Rattle.record.specs.Fragments.{Code}
use Rattle.network.specs.Worlds.{World, known_layouts, new_banks}
use Rattle.network.specs.Events.{Event, MayHappen, happens}
use Rattle.network.specs.Premises.{IsPremised}
use Rattle.example_tests.specs.Scripts.{start}
use Rattle.example_tests.specs.Forgetting.{empty_read, write_to_two}

-- The rule

-- a world in which two processes have this number: the banks of one are in the world, as it handles all that comes, and
-- those of the other stand beside it, as it waits; of `waiting`, only the banks of this node are ever used
pub record TwinWorld : Type 0 where
  pub world : World
  pub node : ℕ
  pub waiting : List (List Bank)

-- what happens there: an event, or the two processes change places, so that the one that waited handles all that comes
pub data TwinEvent : Type 0 where
  Happens : Event → TwinEvent
  Exchange : TwinEvent

-- the banks of a position's members, where those of this node are taken from the other banks
abbrev pub exchanged_by : (node : ℕ) → (servers : List ℕ) → (others banks : List Bank) → List Bank
exchanged_by node [] others banks = banks
exchanged_by node (server ∷ servers) [] banks = banks
exchanged_by node (server ∷ servers) (other ∷ others) [] = []
exchanged_by node (server ∷ servers) (other ∷ others) (bank ∷ banks) =
    (if server == node then other else bank) ∷ exchanged_by node servers others banks

-- the banks of all positions, where those of this node are taken from the other banks
abbrev pub exchanged_banks : (node : ℕ) → List Layout → (others banks : List (List Bank)) → List (List Bank)
exchanged_banks node [] others banks = banks
exchanged_banks node (layout ∷ layouts) [] banks = banks
exchanged_banks node (layout ∷ layouts) (others ∷ more) [] = []
exchanged_banks node (layout ∷ layouts) (others ∷ more) (banks ∷ later) =
    exchanged_by node layout.members others banks ∷ exchanged_banks node layouts more later

-- the banks of the process that waits, after an event: only a move adds new ones
abbrev pub waiting_after : World → Event → List (List Bank) → List (List Bank)
waiting_after world (Event.BeginMove node id layout) waiting = waiting ++ new_banks world.files layout.members 0 ∷ []
waiting_after world _ waiting = waiting

-- the world after the two processes changed places, which counts as an event
abbrev pub exchanged : TwinWorld → TwinWorld
exchanged twin = record twin {
  world = record twin.world {
    banks = exchanged_banks twin.node (known_layouts twin.world twin.node) twin.waiting twin.world.banks;
    now = suc twin.world.now;
  };
  waiting = exchanged_banks twin.node (known_layouts twin.world twin.node) twin.world.banks twin.waiting;
}

-- the world after an event, or after an exchange
abbrev pub twin_happens : Code → TwinWorld → TwinEvent → TwinWorld
twin_happens fragment twin (TwinEvent.Happens event) = record twin {
  world = happens fragment twin.world event;
  waiting = waiting_after twin.world event twin.waiting;
}
twin_happens fragment twin TwinEvent.Exchange = exchanged twin

-- the world after these events
abbrev pub twin_after : Code → List TwinEvent → TwinWorld → TwinWorld
twin_after fragment [] twin = twin
twin_after fragment (event ∷ events) twin = twin_after fragment events (twin_happens fragment twin event)

-- the wrong rule: the two processes may change places at any time; an event meets all premises on events
abbrev pub MayHappenToTwins : Code → TwinWorld → TwinEvent → Type 0
MayHappenToTwins fragment twin (TwinEvent.Happens event) =
    MayHappen fragment twin.world event × IsPremised twin.world event
MayHappenToTwins fragment twin TwinEvent.Exchange = Unit {0}

-- these events may happen one after another, if two processes have one number
abbrev pub MayRunWithTwins : Code → List TwinEvent → TwinWorld → Type 0
MayRunWithTwins fragment [] twin = Unit {0}
MayRunWithTwins fragment (event ∷ events) twin =
    MayHappenToTwins fragment twin event × MayRunWithTwins fragment events (twin_happens fragment twin event)

-- The run

-- the opened world, in which a second process has the number of node 1; its banks are new too, since its log is empty
abbrev pub twin_start : TwinWorld
twin_start = record { world = start; node = 1; waiting = start.banks }

-- a write to the nodes 0 and 1, and a read from the nodes 1 and 2, before which the processes of node 1 change places
abbrev pub twin_run : List TwinEvent
twin_run = map TwinEvent.Happens write_to_two ++ (TwinEvent.Exchange ∷ map TwinEvent.Happens empty_read)
