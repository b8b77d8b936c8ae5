-- What a node does for its clients with what has come.
use Rattle.std.specs.Prelude.{◌≡◌, ⊤, ℕ, Bool, true, false, List, [], ◌∷◌, ◌++◌, Option, None, Some, Ok}
use Rattle.std.specs.List.{AllByRecursion}
use Rattle.indexmap.specs.IndexMap.{index_map_len, keys}
use Rattle.node_strings.specs.declared.arrival.Arrival.{Arrival}
use Rattle.node_strings.specs.declared.arrival.Arrival.TheVariants as came
use Rattle.client_commands.specs.declared.answer.Answer.TheVariants as answers
use Rattle.client_commands.specs.declared.answer.AnswerError.TheVariants as errors
use Rattle.client_commands.specs.declared.command.Command.TheVariants as ask
use Rattle.node_strings.specs.Strings.{Strings}
use Rattle.node_effects.specs.Work.{IsGrown}
use Rattle.node_effects.specs.declared.notice.Notice.{Notice}
use Rattle.node_effects.specs.declared.output.Output.{Output}
use Rattle.node_effects.specs.declared.work.Work.{Work}
use Rattle.node_clients.specs.Connections.{asked, doing, waiting_on}
use Rattle.node_clients.specs.declared.next.Next.{Next}
use Rattle.node_clients.specs.declared.connection.State.TheVariants.{Idle}
use Rattle.node_clients.specs.Answers.{answer_sent}
use Rattle.node_clients.specs.Calls.{waiting_for}
use Rattle.node_clients.specs.Desk.{connection_of, has_listener, with_give_up, with_told}
use Rattle.node_clients.specs.Served.{AreServicesDone, HasQuit, HasServed, IsCallClosed, IsClientAnswered}
use Rattle.node_clients.specs.Served.{IsOpened, IsReleased, call_begun}
use Rattle.node_clients.specs.Services.{Service, all_frames, all_notices, service_dues, service_frames, service_notices}
use Rattle.node_clients.specs.Services.{told_clients, told_frames}
use Rattle.node_clients.specs.declared.desk.Desk.{Desk}
use Rattle.node_clients.specs.declared.open_call.OpenCall.{OpenCall}
use Rattle.node_keeper.specs.declared.delivered.Begun.{Begun}
use Rattle.node_keeper.specs.declared.delivered.Begun.TheVariants as begun
use Rattle.node.specs.AtOnce.{IsAtOnce, IsCarriedOut, IsFirstDone}
use Rattle.node.specs.BegunCalls.{HasPutOut}
use Rattle.node.specs.FitCommands.{IsFitFound}
use Rattle.node.specs.FitDesks.{IsFitDesk}
use Rattle.node.specs.FitNodes.{CameInBytes, StaysFit}
use Rattle.node.specs.GivenIds.{UseIds, UsesIds}
use Rattle.node.specs.Replies.{IsRight}
use Rattle.node.specs.declared.node.Node.{Node}
use Rattle.writable.specs.Keepers.{IsFitKeeper, IsLeftFit}

-- what a node does for its clients after it has done what has come: it carries out the next commands of connections,
-- and calls are answered
abbrev pub FollowsUp : Service → Type 0
FollowsUp (Service.Begins client command id) = ⊤
FollowsUp (Service.Replies client command answer) = ⊤
FollowsUp (Service.Quits client) = ⊤
FollowsUp (Service.Ends name ended answer told) = ⊤
FollowsUp (Service.Passes name ended client rest) = ⊤
FollowsUp service = ⊥

-- the service makes the call of this id older by a tick
abbrev pub IsTickOf : (id : ℕ) → Service → Type 0
IsTickOf id (Service.Ages other) = other ≡ id
IsTickOf id (Service.GivesUp other told) = other ≡ id
IsTickOf id (Service.Releases other told) = other ≡ id
IsTickOf id service = ⊥

-- the services make each of these calls, one after another, older by a tick
abbrev pub AreTicksOf : (ids : List ℕ) → List Service → Type 0
AreTicksOf [] [] = ⊤
AreTicksOf [] (service ∷ services) = ⊥
AreTicksOf (id ∷ ids) [] = ⊥
AreTicksOf (id ∷ ids) (service ∷ services) = IsTickOf id service × AreTicksOf ids services

-- the services for what has come: a command, the end of a connection, or a tick for each open call; a message of
-- another node and a frame that no host sends need none
abbrev pub IsComing : Desk → Option Arrival → List Service → Type 0
IsComing desk None services = services ≡ []
IsComing desk (Some (came.Command client command)) services = services ≡ Service.Arrives client command ∷ []
IsComing desk (Some (came.Left client)) services = services ≡ Service.Leaves client ∷ []
IsComing desk (Some (came.Message sender frame)) services = services ≡ []
IsComing desk (Some (came.Tick heard)) services = AreTicksOf (keys desk.calls) services

-- The node did exactly these services for its clients, and what it did with commands is right. Its work grew by the
-- frames that clients are sent for them, by the connections that are idle again, and by what clients see of them. It
-- gave just the ids that they use. The cluster file and the node's number stay the same.
pub record ServesClients (old : Node) (before : Work) (services : List Service) (new : Node)
    (after : Work) : Type 0 where
  pub has : HasServed old.keeper.file.ticks old.keeper.file.fixed.delta old.desk before services new.desk after
  pub right : AllByRecursion (IsRight old.keeper.ids.node old.keeper.file) services
  pub ids : UseIds old.keeper.ids services new.keeper.ids
  pub file : new.keeper.file ≡ old.keeper.file
  pub number : new.keeper.ids.node ≡ old.keeper.ids.node

-- the node did some services that follow up, and put out what it puts out for the calls that they begin
pub record ServesMore (old : Node) (before : Work) (new : Node) (after : Work) : Type 0 where
  pub services : List Service
  pub serves : ServesClients old before services new after
  pub follows : AllByRecursion FollowsUp services
  pub put_out : AllByRecursion (HasPutOut old.keeper after.outputs.items) services

-- the node did some services that follow up; if a client's connection was idle, the first of them carries out the
-- first command that waited there; and if the names at its desk were short, what it keeps stays fit
pub record ServesNext (client : ℕ) (old : Node) (before : Work) (new : Node) (after : Work) : Type 0 where
  pub more : ServesMore old before new after
  pub first : (next : Next) (waiting : List Next) → doing (connection_of old.desk client) ≡ Idle →
      waiting_on (connection_of old.desk client) ≡ next ∷ waiting →
      IsFirstDone old.keeper old.peers (index_map_len old.desk.calls) old.desk.counts client next more.services
  pub fit : IsFitDesk old.desk → IsFitKeeper old.keeper → IsLeftFit before new.keeper after

-- the node did the services for what came, and then some that follow up, and put out what it puts out for the calls
-- that these begin; and it stays fit if it came in a frame of bytes
pub record ServesArrival (came : Option Arrival) (old : Node) (before : Work) (new : Node) (after : Work) : Type 0 where
  pub coming : List Service
  pub more : List Service
  pub comes : IsComing old.desk came coming
  pub follows : AllByRecursion FollowsUp more
  pub at_once : IsAtOnce came old.keeper old.peers old.desk more
  pub serves : ServesClients old before (coming ++ more) new after
  pub put_out : AllByRecursion (HasPutOut old.keeper after.outputs.items) more
  pub fit : CameInBytes came → StaysFit old before new after

-- the same since the node was `first`, when its work was empty: these are all frames that clients are sent, all notices
-- of what they see, and all that the node put out
pub record ServedSince (came : Option Arrival) (first now : Node) (frames : List Strings) (seen : List Notice)
    (outputs : List Output) : Type 0 where
  pub coming : List Service
  pub more : List Service
  pub comes : IsComing first.desk came coming
  pub follows : AllByRecursion FollowsUp more
  pub at_once : IsAtOnce came first.keeper first.peers first.desk more
  pub served : AreServicesDone first.keeper.file.ticks first.keeper.file.fixed.delta first.desk (coming ++ more)
      now.desk
  pub right : AllByRecursion (IsRight first.keeper.ids.node first.keeper.file) (coming ++ more)
  pub ids : UseIds first.keeper.ids (coming ++ more) now.keeper.ids
  pub answers : frames ≡ all_frames (coming ++ more)
  pub notices : seen ≡ all_notices (coming ++ more)
  pub put_out : AllByRecursion (HasPutOut first.keeper outputs) more
  pub file : now.keeper.file ≡ first.keeper.file
  pub digest : now.keeper.digest ≡ first.keeper.digest
  pub number : now.keeper.ids.node ≡ first.keeper.ids.node

-- Commands

-- how the desk changes when the node carries out a client's command; the client's connection is busy with the command
abbrev pub IsCommandDone : (old : Desk) → (client : ℕ) → Next → Service → (new : Desk) → Type 0
IsCommandDone old client next (Service.Begins other command id) new =
    (other ≡ client) × (asked next ≡ Ok command) × IsOpened old (call_begun client command) id new
IsCommandDone old client next (Service.Replies other command answer) new =
    (other ≡ client) × (command ≡ next) × IsClientAnswered old client new
IsCommandDone old client next (Service.Quits other) new =
    (other ≡ client) × (asked next ≡ Ok ask.Quit) × HasQuit old client new
IsCommandDone old client next service new = ⊥

-- the node carried out a client's command, with which the client's connection is busy: it did one service, and if this
-- began a call, put out what it puts out then; and if the names of the command were short, what it keeps stays fit
pub record ServesCommand (client : ℕ) (next : Next) (old : Node) (before : Work) (new : Node)
    (after : Work) : Type 0 where
  pub service : Service
  pub done : IsCommandDone old.desk client next service new.desk
  pub right : IsRight old.keeper.ids.node old.keeper.file service
  pub carried : IsCarriedOut old.keeper old.peers (index_map_len old.desk.calls) old.desk.counts client next service
  pub told : after.to_clients.items ≡ before.to_clients.items ++ service_frames service
  pub due : after.due.items ≡ before.due.items ++ service_dues service
  pub notices : after.notices.items ≡ before.notices.items ++ service_notices service
  pub put_out : HasPutOut old.keeper after.outputs.items service
  pub file : new.keeper.file ≡ old.keeper.file
  pub ids : UsesIds old.keeper.ids service new.keeper.ids
  pub fit : IsFitFound (asked next) → IsFitKeeper old.keeper → IsLeftFit before new.keeper after

-- what the desk does for a client when its call was to begin: the call began and the client waits for its answer, or
-- the call was refused and the client is told
abbrev pub IsAwaited : (old : Desk) → (before : Work) → (client : ℕ) → Option OpenCall → Begun → (new : Desk) →
    (after : Work) → Type 0
IsAwaited old before client call (begun.Open id) new after = IsOpened old call id new × (after ≡ before)
IsAwaited old before client call (begun.Refused why) new after =
    IsClientAnswered old client new
    × IsGrown before after (answer_sent client (answers.Error (errors.Refused why)))

-- Ticks

-- clients are sent nothing and see nothing, and no connection is idle again
pub record SeesNothing (before after : Work) : Type 0 where
  pub told : after.to_clients.items ≡ before.to_clients.items
  pub due : after.due.items ≡ before.due.items
  pub notices : after.notices.items ≡ before.notices.items

-- how the desk changes for a call that is late: a move goes on without its client, and any other call ends
abbrev pub IsLate : (is_move : Bool) → (old : Desk) → (id : ℕ) → (told : Option ℕ) → (new : Desk) → Type 0
IsLate true old id told new = IsReleased old id told new
IsLate false old id told new = IsCallClosed old id told new
    × (new.counts ≡ with_told (has_listener old (waiting_for old.calls id)) (with_give_up old.counts))

-- the node did what it does for a call that is late: the client that waited, if one did, is told
pub record ServesLate (id : ℕ) (is_move : Bool) (old : Node) (before : Work) (new : Node) (after : Work) : Type 0 where
  pub who : Option ℕ
  pub late : IsLate is_move old.desk id who new.desk
  pub told : after.to_clients.items ≡ before.to_clients.items ++ told_frames who (answers.Error errors.NoQuorum)
  pub due : after.due.items ≡ before.due.items ++ told_clients who
  pub notices : after.notices.items ≡ before.notices.items
  pub file : new.keeper.file ≡ old.keeper.file
  pub ids : new.keeper.ids ≡ old.keeper.ids

-- these calls are older by a tick, one after another; and if the names at the desk were short, what the node keeps
-- stays fit
pub record ServesTicks (ids : List ℕ) (old : Node) (before : Work) (new : Node) (after : Work) : Type 0 where
  pub services : List Service
  pub ticks : AreTicksOf ids services
  pub serves : ServesClients old before services new after
  pub fit : IsFitDesk old.desk → IsFitKeeper old.keeper → IsLeftFit before new.keeper after
