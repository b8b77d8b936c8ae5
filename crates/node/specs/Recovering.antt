-- What a node carries out again from an entry of its log, and which entries it refuses.
use Rattle.std.specs.Prelude.{◌≡◌, ◌≢◌, ◌⊎◌, ◌^◌, ⊤, ℕ, suc, nat_lt, Bool, true, false, List, Option, None, Some}
use Rattle.std.specs.Prelude.{Result, Ok, Err}
use Rattle.client_commands.specs.declared.command.Wanted.TheVariants as wanted
use Rattle.frames.specs.Frame.{IsFrame}
use Rattle.tag.specs.declared.refusal.Refusal.{Refusal}
use Rattle.local_object.specs.Doing.{move_refusal}
use Rattle.node_keeper.specs.Objects.{objects_of}
use Rattle.recoveries.specs.Records.{IsNamedReplyOutcome, Recovers}
use Rattle.node_clients.specs.Calls.{call_under}
use Rattle.node_clients.specs.declared.open_call.OpenCall.{OpenCall}
use Rattle.node_log.specs.Entry.{sealed}
use Rattle.node_messages.specs.Reading.{message_from}
use Rattle.node_messages.specs.declared.error.Fault.{Fault}
use Rattle.node_messages.specs.declared.message.NodeMessage.{NodeMessage}
use Rattle.node_strings.specs.Record.{record_at}
use Rattle.node_strings.specs.declared.record.Record.{Record}
use Rattle.node_strings.specs.declared.record.Record.TheVariants as record_of
use Rattle.node_strings.specs.Strings.{Strings}
use Rattle.node_effects.specs.declared.error.NodeError.TheVariants as errors
use Rattle.node_effects.specs.declared.error.RecoveryError.{RecoveryError}
use Rattle.node_effects.specs.declared.error.RecoveryError.TheVariants as refusals
use Rattle.node_keeper.specs.Delivering.{first_id}
use Rattle.node_keeper.specs.Keeping.{kept_of}
use Rattle.node_keeper.specs.Logging.{deeds_of}
use Rattle.node_keeper.specs.declared.keeper.Keeper.{Keeper}
use Rattle.node_effects.specs.declared.report.Report.{Report}
use Rattle.node.specs.Peers.{next_report, with_next_told}
use Rattle.node.specs.declared.node.Node.{Node}

-- the log is known to be that of this node, or this record says so
abbrev pub IsOwnLog : Record → Node → Type 0
IsOwnLog (record_of.Cluster digest number) node =
    (node.is_named ≡ false) × (digest ≡ node.keeper.digest) × (number ≡ node.keeper.ids.node)
IsOwnLog it node = node.is_named ≡ true

-- a frame was read as a message
abbrev pub IsRead : Result NodeMessage Fault → Type 0
IsRead (Ok message) = ⊤
IsRead (Err fault) = ⊥

-- if a record has a letter, its strings are those of a message
abbrev pub HasItsLetter : Record → Type 0
HasItsLetter (record_of.Serve frame) = IsRead (message_from frame)
HasItsLetter (record_of.Take frame) = IsRead (message_from frame)
HasItsLetter it = ⊤

-- the connections of the node's clients are as they were, and so is whether its log is known to be its own
pub record KeepsDesk (old new : Node) : Type 0 where
  pub named : new.is_named ≡ old.is_named
  pub clients : new.desk.clients ≡ old.desk.clients

-- the open calls of the desk are as they were
abbrev pub KeepsCalls : (old new : Node) → Type 0
KeepsCalls old new = new.desk.calls ≡ old.desk.calls

-- under this id the desk has this call, or none, and under each other id what it had
pub record HasCallUnder (old : Node) (id : ℕ) (call : Option OpenCall) (new : Node) : Type 0 where
  pub here : call_under new.desk.calls id ≡ call
  pub others : (other : ℕ) → other ≢ id → call_under new.desk.calls other ≡ call_under old.desk.calls other

-- if an id is given, its call is open at the desk no more; no other call has changed
abbrev pub ClosesCall : (old : Node) → (id : Option ℕ) → (new : Node) → Type 0
ClosesCall old None new = KeepsCalls old new
ClosesCall old (Some id) new = HasCallUnder old id None new

-- a move of the object of this name that goes on after a restart, as the desk has it: no client waits for it
abbrev pub resumed_move : (name : List ℕ) → OpenCall
resumed_move name = record {
  name = name;
  client = None;
  wanted = wanted.Value;
  is_move = true;
  age = 0;
  deletion = None;
}

-- a frame was read as a message, whose letter was taken again: the call that this ended, if it ended one, is open at
-- the desk no more, and no other call has changed
abbrev pub ClosesTaken : Result NodeMessage Fault → (old new : Node) → Type 0
ClosesTaken (Ok message) old new =
    (taken : IsNamedReplyOutcome (kept_of old.keeper) message.named.name message.named.letter (kept_of new.keeper))
    × ClosesCall old (first_id taken.ended) new
ClosesTaken (Err fault) old new = ⊥

-- how the open calls of the desk change when a record is carried out again: a reply that is taken again closes the call
-- that it ends, a move that begins again is open, and no other record changes them
abbrev pub CarriesOutCalls : (old : Node) → Record → (new : Node) → Type 0
CarriesOutCalls old (record_of.Take frame) new = ClosesTaken (message_from frame) old new
CarriesOutCalls old (record_of.Move id name layout) new = HasCallUnder old id (Some (resumed_move name)) new
CarriesOutCalls old it new = KeepsCalls old new

-- the cluster file and its digest are as they were
pub record KeepsCluster (old new : Keeper) : Type 0 where
  pub file : new.file ≡ old.file
  pub digest : new.digest ≡ old.digest

-- if the record is a move, its object does not refuse it
abbrev pub IsUnrefusedMove : Record → Keeper → Type 0
IsUnrefusedMove (record_of.Move id name layout) keeper = move_refusal (objects_of keeper.objects name) id ≡ None
IsUnrefusedMove it keeper = ⊤

-- the node carried out a record of its own log again
pub record CarriesOutRecord (old : Node) (it : Record) (new : Node) : Type 0 where
  pub own : IsOwnLog it old
  pub named : new.is_named ≡ true
  pub letter : HasItsLetter it
  pub recovers : Recovers (deeds_of it) (kept_of old.keeper) (kept_of new.keeper)
  pub unrefused : IsUnrefusedMove it old.keeper
  pub cluster : KeepsCluster old.keeper new.keeper
  pub clients : new.desk.clients ≡ old.desk.clients
  pub calls : CarriesOutCalls old it new

-- a node carried out again what an entry of its log records
pub record CarriesOutEntry (old : Node) (entry : Strings) (new : Node) : Type 0 where
  pub strings : Strings
  pub whole : entry ≡ sealed strings
  pub it : Record
  pub read : record_at strings ≡ Some it
  pub done : CarriesOutRecord old it new

-- Refusals

-- a frame is no message
abbrev pub IsNoMessage : Result NodeMessage Fault → Type 0
IsNoMessage (Ok message) = ⊥
IsNoMessage (Err fault) = ⊤

-- why a node refuses a record with a letter: there is no memory, or its frame is no message
abbrev pub RefusesLetter : (frame : Strings) → RecoveryError → Type 0
RefusesLetter frame error = (error ≡ refusals.Stopped errors.NoMemory)
    ⊎ ((error ≡ refusals.NoEntry) × IsNoMessage (message_from frame))

-- why a node refuses a record of a log that is its own: the record names a cluster once more, or is a start although
-- all epochs have begun, or has a letter that is no message, or is a move that its object refuses; or there is no
-- memory. A record of a bank that the node closed is never refused.
abbrev pub RefusesOwn : Keeper → Record → RecoveryError → Type 0
RefusesOwn keeper (record_of.Cluster digest number) error = error ≡ refusals.NoEntry
RefusesOwn keeper record_of.Start error =
    (error ≡ refusals.Stopped errors.NoMoreIds) × (nat_lt (suc keeper.ids.epoch) (2 ^ 24) ≡ false)
RefusesOwn keeper (record_of.Serve frame) error = RefusesLetter frame error
RefusesOwn keeper (record_of.Take frame) error = RefusesLetter frame error
RefusesOwn keeper (record_of.Move id name layout) error = (error ≡ refusals.Stopped errors.NoMemory)
    ⊎ ((why : Refusal) × (move_refusal (objects_of keeper.objects name) id ≡ Some why)
    × (error ≡ refusals.Stopped (errors.Refused why)))
RefusesOwn keeper (record_of.Hear position name layout) error = error ≡ refusals.Stopped errors.NoMemory
RefusesOwn keeper (record_of.Close position name) error = ⊥

-- why a node refuses the first record of a log: the record names no cluster, another cluster, or another node
abbrev pub RefusesFirst : Keeper → Record → RecoveryError → Type 0
RefusesFirst keeper (record_of.Cluster digest number) error =
    ((digest ≢ keeper.digest) × (error ≡ refusals.OtherCluster digest))
    ⊎ ((digest ≡ keeper.digest) × (number ≢ keeper.ids.node) × (error ≡ refusals.OtherNode number))
RefusesFirst keeper it error = error ≡ refusals.NoCluster

-- why a node refuses a record; `is_named` says whether its log is known to be its own
abbrev pub RefusesRecord : (is_named : Bool) → Keeper → Record → RecoveryError → Type 0
RefusesRecord true keeper it error = RefusesOwn keeper it error
RefusesRecord false keeper it error = RefusesFirst keeper it error

-- why a node refuses strings: they are no record, or the record is refused
abbrev pub RefusesStrings : Node → Option Record → RecoveryError → Type 0
RefusesStrings old None error = error ≡ refusals.NoEntry
RefusesStrings old (Some it) error = RefusesRecord old.is_named old.keeper it error

-- why a node refuses an entry of its log: its strings are no frame, or they are refused
abbrev pub RefusesEntry : Node → (entry : Strings) → RecoveryError → Type 0
RefusesEntry old entry error = (strings : Strings) × (entry ≡ sealed strings)
    × (((error ≡ refusals.NoEntry) × (IsFrame strings → ⊥)) ⊎ RefusesStrings old (record_at strings) error)

-- a node has noted the length of its log, and it is told of the next node with another cluster file, if there is one;
-- otherwise the node is as before
abbrev pub Notes : Node → (bytes : ℕ) → Node → Type 0
Notes old bytes new = new ≡ record old {
  desk = record old.desk { counts = record old.desk.counts { log_bytes = bytes } };
  peers = with_next_told old.peers;
}

-- what is then told of that node
abbrev pub Tells : Node → Option Report → Type 0
Tells old told = told ≡ next_report old.peers
