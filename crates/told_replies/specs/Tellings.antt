-- The contracts that docs/trusted.md lists do not depend on this file; other contracts and proofs do.
-- What members tell with their replies, and what a call was told in its current phase.
use Rattle.std.specs.Prelude.{◌≡◌, ℕ, nat_eq, List, ◌∷◌, ◌++◌}
use Rattle.std.specs.List.{AllByRecursion, IsDistinct}
use Rattle.mail.specs.declared.message.Message.{Message}
use Rattle.record.specs.Fragments.{Code}
use Rattle.letter.specs.Tellings.{telling_of}
use Rattle.letter.specs.declared.telling.Telling.{Telling}
use Rattle.open_calls.specs.OpenCalls.{NodeCall}
use Rattle.network.specs.Worlds.{ClusterFile, World, member_bank, opened_world}
use Rattle.network.specs.Events.{Event, happens, world_after}

-- a run of separate nodes: the cluster files that they run with, and the events, from an opened world on
pub record Run : Type 0 where
  pub files : (node : ℕ) → ClusterFile
  pub events : List Event

-- the world after the run
abbrev pub world_of : Code → Run → World
world_of fragment run = world_after fragment run.events (opened_world run.files)

-- the run up to some of its events
abbrev pub run_until : Run → List Event → Run
run_until run events = record { files = run.files; events = events }

-- at some event of the run a member served this request, and it told this with its reply
pub record WasTold (fragment : Code) (run : Run) (request : Message) (telling : Telling) : Type 0 where
  pub before : List Event
  pub after : List Event
  pub served : run.events ≡ before ++ Event.Serve request ∷ after
  pub tells : telling_of
      (member_bank (happens fragment (world_of fragment (run_until run before)) (Event.Serve request)) request.position
      request.member) ≡ telling

-- the member told the call this, with a reply to the call's current phase
pub record HasTold (fragment : Code) (run : Run) (call : NodeCall) (member : ℕ) (telling : Telling) : Type 0 where
  pub request : Message
  pub told : WasTold fragment run request telling
  pub same_call : request.call ≡ call.id
  pub same_phase : request.phase ≡ call.phase.number
  pub same_member : request.member ≡ member

-- each of these members, none of them twice, told the call something of which this is so
pub record HaveTold (fragment : Code) (run : Run) (call : NodeCall) (Says : (member : ℕ) → Telling → Type 0)
    (members : List ℕ) : Type 0 where
  pub distinct : IsDistinct nat_eq members
  pub each : AllByRecursion
      (λ member. (telling : Telling) × HasTold fragment run call member telling × Says member telling) members
