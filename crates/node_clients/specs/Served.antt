-- How the desk of a node changes with each thing that it does for its clients.
use Rattle.std.specs.Prelude.{◌≡◌, ◌≢◌, ℕ, true, false, List, [], ◌∷◌, ◌++◌, Option, None, Some, is_some, IsSome, Ok}
use Rattle.node_clients.specs.Connections.{TakesNextAt, asked, doing, waiting_on}
use Rattle.node_clients.specs.declared.connection.State.TheVariants.{Quit}
use Rattle.client_commands.specs.Deletion.{name_now}
use Rattle.client_commands.specs.declared.command.Command.{Command}
use Rattle.client_commands.specs.declared.command.Command.TheVariants as ask
use Rattle.client_commands.specs.declared.command.Wanted.TheVariants as wanted
use Rattle.node_clients.specs.declared.next.Next.{Next}
use Rattle.node_clients.specs.declared.next.Next.TheVariants as next
use Rattle.node_strings.specs.Strings.{Strings}
use Rattle.node_effects.specs.declared.work.Work.{Work}
use Rattle.node_clients.specs.Calls.{becomes_late, call_answer, call_under, is_move_open, older_call, rest_of}
use Rattle.node_clients.specs.Calls.{waiting_for, with_nobody}
use Rattle.node_clients.specs.Desk.{IsIdleAgain, IsIdleFor, IsPutBack, connection_of, has_listener, listener}
use Rattle.node_clients.specs.Desk.{with_give_up, with_told}
use Rattle.node_clients.specs.Services.{Service, all_dues, all_frames, all_notices}
use Rattle.node_clients.specs.declared.desk.Desk.{Desk}
use Rattle.node_clients.specs.declared.open_call.OpenCall.{OpenCall}
use Rattle.node_clients.specs.declared.rest.Rest.{Rest}

-- all connections but that of this client are as they were
abbrev pub KeepsOthers : (old : Desk) → (client : ℕ) → (new : Desk) → Type 0
KeepsOthers old client new = (other : ℕ) → other ≢ client → connection_of new other ≡ connection_of old other

-- all open calls but the one of this id are as they were
abbrev pub KeepsOtherCalls : (old : Desk) → (id : ℕ) → (new : Desk) → Type 0
KeepsOtherCalls old id new = (other : ℕ) → other ≢ id → call_under new.calls other ≡ call_under old.calls other

-- Commands

-- a client's command waits on its connection, after those that waited there; the connection is made if there was none
pub record IsArrived (old : Desk) (client : ℕ) (command : Strings) (new : Desk) : Type 0 where
  pub there : IsSome (connection_of new client)
  pub state : doing (connection_of new client) ≡ doing (connection_of old client)
  pub waiting : waiting_on (connection_of new client) ≡ waiting_on (connection_of old client) ++ next.Came command ∷ []
  pub others : KeepsOthers old client new
  pub calls : new.calls ≡ old.calls
  pub counts : new.counts ≡ old.counts

-- a client's connection was removed
pub record IsGone (old : Desk) (client : ℕ) (new : Desk) : Type 0 where
  pub gone : connection_of new client ≡ None
  pub others : KeepsOthers old client new
  pub calls : new.calls ≡ old.calls
  pub counts : new.counts ≡ old.counts

-- the first command that waited on a client's connection was taken out; the connection was idle and is now busy
pub record IsCommandTaken (old : Desk) (client : ℕ) (command : Next) (new : Desk) : Type 0 where
  pub taken : TakesNextAt (connection_of old client) (connection_of new client) (Some command)
  pub others : KeepsOthers old client new
  pub calls : new.calls ≡ old.calls
  pub counts : new.counts ≡ old.counts

-- the call that a command begins, for which its client waits, if it begins one
abbrev pub call_begun : (client : ℕ) → Command → Option OpenCall
call_begun client (ask.Read what name) =
    Some (record { name = name; client = Some client; wanted = what; is_move = false; age = 0; deletion = None })
call_begun client (ask.Set name value) =
    Some (record {
      name = name;
      client = Some client;
      wanted = wanted.Value;
      is_move = false;
      age = 0;
      deletion = None;
    })
call_begun client (ask.Move name layout) =
    Some (record { name = name; client = Some client; wanted = wanted.Value; is_move = true; age = 0; deletion = None })
call_begun client (ask.Delete deletion) = Some (record {
  name = name_now deletion;
  client = Some client;
  wanted = wanted.Value;
  is_move = false;
  age = 0;
  deletion = Some deletion;
})
call_begun client command = None

-- a call was added to the open calls
pub record IsOpened (old : Desk) (call : Option OpenCall) (id : ℕ) (new : Desk) : Type 0 where
  pub some : IsSome call
  pub opened : call_under new.calls id ≡ call
  pub others : KeepsOtherCalls old id new
  pub clients : new.clients ≡ old.clients
  pub counts : new.counts ≡ old.counts

-- a client's command was answered, so its connection is idle again
pub record IsClientAnswered (old : Desk) (client : ℕ) (new : Desk) : Type 0 where
  pub idle : IsIdleAgain old.clients client new.clients
  pub calls : new.calls ≡ old.calls
  pub counts : new.counts ≡ with_told true old.counts

-- a client has quit: no further command of its connection is taken
pub record HasQuit (old : Desk) (client : ℕ) (new : Desk) : Type 0 where
  pub stays : is_some (connection_of new client) ≡ is_some (connection_of old client)
  pub state : doing (connection_of new client) ≡ Quit
  pub waiting : waiting_on (connection_of new client) ≡ waiting_on (connection_of old client)
  pub others : KeepsOthers old client new
  pub calls : new.calls ≡ old.calls
  pub counts : new.counts ≡ old.counts

-- Calls

-- a call is no longer open, and the connection of the client that waited for it, if it is there, is idle again
pub record IsCallClosed (old : Desk) (id : ℕ) (told : Option ℕ) (new : Desk) : Type 0 where
  pub who : told ≡ listener old (waiting_for old.calls id)
  pub gone : call_under new.calls id ≡ None
  pub others : KeepsOtherCalls old id new
  pub idle : IsIdleFor old.clients (waiting_for old.calls id) new.clients

-- the client of a call no longer waits for it, and its connection, if it is there, is idle again
pub record IsReleased (old : Desk) (id : ℕ) (told : Option ℕ) (new : Desk) : Type 0 where
  pub who : told ≡ listener old (waiting_for old.calls id)
  pub released : call_under new.calls id ≡ with_nobody (call_under old.calls id)
  pub others : KeepsOtherCalls old id new
  pub idle : IsIdleFor old.clients (waiting_for old.calls id) new.clients
  pub counts : new.counts ≡ with_told (has_listener old (waiting_for old.calls id)) old.counts

-- nothing more is to be done for the client of a call that ends: nothing is left of its command, or no client waits
-- whose connection is there
abbrev pub IsLast : (delta : Option ℕ) → (old : Desk) → (id : ℕ) → Type 0
IsLast delta old id =
    has_listener old (waiting_for old.calls id) ≡ true → rest_of delta (call_under old.calls id) ≡ None

-- a call of which something is left is no longer open, and what is left is carried out next on the connection of its
-- client
pub record IsPassed (delta : Option ℕ) (old : Desk) (id client : ℕ) (rest : Rest) (new : Desk) : Type 0 where
  pub who : listener old (waiting_for old.calls id) ≡ Some client
  pub left : rest_of delta (call_under old.calls id) ≡ Some rest
  pub gone : call_under new.calls id ≡ None
  pub others : KeepsOtherCalls old id new
  pub back : IsPutBack old.clients client rest new.clients
  pub counts : new.counts ≡ old.counts

-- a call, if it is open, was made older by a tick
pub record IsOlder (old : Desk) (id : ℕ) (new : Desk) : Type 0 where
  pub older : call_under new.calls id ≡ older_call (call_under old.calls id)
  pub others : KeepsOtherCalls old id new
  pub clients : new.clients ≡ old.clients
  pub counts : new.counts ≡ old.counts

-- What happens

-- How the desk changes with each service. A call is late if it is older than this number of ticks after its tick. A
-- call that is late is given up, unless it is a move. With this `delta`, a DEL writes to each name as `left_over` says.
abbrev pub IsServiceDone : (ticks : ℕ) → (delta : Option ℕ) → (old : Desk) → Service → (new : Desk) → Type 0
IsServiceDone ticks delta old (Service.Arrives client command) new = IsArrived old client command new
IsServiceDone ticks delta old (Service.Leaves client) new = IsGone old client new
IsServiceDone ticks delta old (Service.Begins client command id) new =
    (first : Next) × (asked first ≡ Ok command) × (taken : Desk) × IsCommandTaken old client first taken
    × IsOpened taken (call_begun client command) id new
IsServiceDone ticks delta old (Service.Replies client first answer) new =
    (taken : Desk) × IsCommandTaken old client first taken × IsClientAnswered taken client new
IsServiceDone ticks delta old (Service.Quits client) new =
    (first : Next) × (asked first ≡ Ok ask.Quit) × (taken : Desk) × IsCommandTaken old client first taken
    × HasQuit taken client new
IsServiceDone ticks delta old (Service.Ends name ended answer told) new =
    (answer ≡ call_answer (call_under old.calls ended.id) ended) × IsLast delta old ended.id
    × IsCallClosed old ended.id told new
    × (new.counts ≡ with_told (has_listener old (waiting_for old.calls ended.id)) old.counts)
IsServiceDone ticks delta old (Service.Passes name ended client rest) new =
    IsPassed delta old ended.id client rest new
IsServiceDone ticks delta old (Service.Ages id) new =
    (becomes_late ticks (call_under old.calls id) ≡ false) × IsOlder old id new
IsServiceDone ticks delta old (Service.GivesUp id told) new =
    (becomes_late ticks (call_under old.calls id) ≡ true) × (is_move_open (call_under old.calls id) ≡ false)
    × (older : Desk) × IsOlder old id older × IsCallClosed older id told new
    × (new.counts ≡ with_told (has_listener older (waiting_for older.calls id)) (with_give_up older.counts))
IsServiceDone ticks delta old (Service.Releases id told) new =
    (becomes_late ticks (call_under old.calls id) ≡ true) × (is_move_open (call_under old.calls id) ≡ true)
    × (older : Desk) × IsOlder old id older × IsReleased older id told new

-- how the desk changes with these services, one after another
abbrev pub AreServicesDone : (ticks : ℕ) → (delta : Option ℕ) → (old : Desk) → List Service → (new : Desk) → Type 0
AreServicesDone ticks delta old [] new = new ≡ old
AreServicesDone ticks delta old (service ∷ services) new =
    (between : Desk) × IsServiceDone ticks delta old service between × AreServicesDone ticks delta between services new

-- the desk did these services, one after another, and the work grew by the frames that clients are sent for them, by
-- the connections that are idle again, and by what clients see of them
pub record HasServed (ticks : ℕ) (delta : Option ℕ) (old : Desk) (before : Work) (services : List Service) (new : Desk)
    (after : Work) : Type 0 where
  pub served : AreServicesDone ticks delta old services new
  pub told : after.to_clients.items ≡ before.to_clients.items ++ all_frames services
  pub due : after.due.items ≡ before.due.items ++ all_dues services
  pub notices : after.notices.items ≡ before.notices.items ++ all_notices services
