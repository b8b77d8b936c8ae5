-- The contracts that docs/trusted.md lists do not depend on this file; other contracts and proofs do.
-- The statements that each event, and each run, is followed by steps of the record.
use Rattle.std.specs.Prelude.{ℕ, List}
use Rattle.layout.specs.Layout.{Layout, IsLawful}
use Rattle.bank.specs.Bank.{Bank}
use Rattle.mail.specs.declared.message.Message.{Message}
use Rattle.record.specs.Fragments.{Code, IsCode}
use Rattle.record.specs.Records.{Object}
use Rattle.record.specs.Steps.{opened_object}
use Rattle.soundness.specs.Sound.{IsSound}
use Rattle.network.specs.Worlds.{ClusterFile, World, opened_world}
use Rattle.open_calls.specs.OpenCalls.{NodeCall}
use Rattle.network.specs.Events.{Event, MayHappen, happens, world_after}
use Rattle.network.specs.Premises.{IsOneFile, IsPremised, MayHappenInTurn}
use Rattle.network.specs.Following.{Follows, LeadsOn, last_step_after}

-- a world that follows a sound record follows one after the event, which some steps of the record lead to
abbrev pub IsFollowed : Event → Type 0
IsFollowed event = (fragment : Code) (world : World) (object : Object) → IsCode fragment →
    IsSound fragment object (last_step_after world.now) → Follows world object → MayHappen fragment world event →
    IsPremised world event → LeadsOn fragment object (last_step_after world.now) (happens fragment world event)

-- a read or a write that a node begins is followed
abbrev pub BegunCallsAreFollowed : Type 0
BegunCallsAreFollowed = (node id : ℕ) (value : List ℕ) →
    IsFollowed (Event.BeginRead node id) × IsFollowed (Event.BeginWrite node id value)

-- a move that the mover begins is followed
abbrev pub BegunMovesAreFollowed : Type 0
BegunMovesAreFollowed = (node id : ℕ) (layout : Layout) → IsFollowed (Event.BeginMove node id layout)

-- the phase that is due is followed
abbrev pub AdvancesAreFollowed : Type 0
AdvancesAreFollowed = (id : ℕ) → IsFollowed (Event.Advance id)

-- serving a request is followed: the record repeats it, and serves the copy
abbrev pub ServesAreFollowed : Type 0
ServesAreFollowed = (message : Message) → IsFollowed (Event.Serve message)

-- taking a reply is followed: the record repeats it, and takes the copy
abbrev pub TakesAreFollowed : Type 0
TakesAreFollowed = (message : Message) → IsFollowed (Event.Take message)

-- settling a value is followed
abbrev pub SettlesAreFollowed : Type 0
SettlesAreFollowed = (id : ℕ) (value : List ℕ) → IsFollowed (Event.Settle id value)

-- an answer is followed
abbrev pub AnswersAreFollowed : Type 0
AnswersAreFollowed = (id : ℕ) → IsFollowed (Event.Answer id)

-- giving a call up is followed by no step
abbrev pub GivenUpCallsAreFollowed : Type 0
GivenUpCallsAreFollowed = (id : ℕ) → IsFollowed (Event.GiveUp id)

-- the stop and start of a node is followed by no step
abbrev pub RestartsAreFollowed : Type 0
RestartsAreFollowed = (node : ℕ) (banks : List (List Bank)) (calls : List NodeCall) →
    IsFollowed (Event.Restart node banks calls)

-- steps of the record lead from an opened object to one that the world follows after these events
abbrev pub RunsAreFollowed : Type 0
RunsAreFollowed = (fragment : Code) (files : ℕ → ClusterFile) (events : List Event) → IsCode fragment →
    IsOneFile files → IsLawful (files 0).first → MayHappenInTurn fragment events (opened_world files) →
    LeadsOn fragment (opened_object (files 0).first (files 0).delta 0) 0
    (world_after fragment events (opened_world files))
