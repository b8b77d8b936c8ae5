-- The contracts that docs/trusted.md lists do not depend on this file; other contracts and proofs do.
-- A worked example of a node that stops while its log is synced: what is read of the log, and the run of the nodes.
use Rattle.std.specs.Prelude.{◌≡◌, ◌==◌, ◌&&◌, if◌then◌else◌, not, ℕ, Bool, true, false, List, [], ◌∷◌, ◌++◌}
use Rattle.std.specs.Prelude.{Option, None, Some, get_or, map, take, replicate, slice_set}
use Rattle.std.specs.List.{AllByRecursion, filter}
use Rattle.bank.specs.Bank.{Bank}
use Rattle.bank.specs.declared.request.Request.{Request}
use Rattle.bank.specs.declared.request.Request.TheVariants as request
use Rattle.mail.specs.declared.message.Body.{Body}
use Rattle.mail.specs.declared.message.Body.TheVariants as body
use Rattle.mail.specs.declared.message.Message.{Message}
use Rattle.record.specs.declared.call.Entry.{Entry}
use Rattle.record.specs.declared.call.Operation.TheVariants as operation
use Rattle.record.specs.Records.{no_bank}
use Rattle.node_strings.specs.Record.{record_strings}
use Rattle.node_strings.specs.declared.record.Record.TheVariants as record_of
use Rattle.node_strings.specs.Strings.{Strings}
use Rattle.node_messages.specs.Strings.{strings_of}
use Rattle.node_log.specs.Entry.{chain_behind, first_chain, log_entry_bytes}
use Rattle.node_log.specs.Reading.{IsEnd}
use Rattle.node_store.specs.Recovery.{BeginsWith, IsWholeEntry, log_bytes}
use Rattle.open_calls.specs.OpenCalls.{NodeCall}
use Rattle.local_object.specs.Local.{LocalObject, bank_here}
use Rattle.local_object.specs.declared.kept_bank.KeptBank.{KeptBank}
use Rattle.local_object.specs.declared.kept_bank.KeptBank.TheVariants as kept
use Rattle.deeds.specs.Kept.{FileOfNames}
use Rattle.node_keeper.specs.Keeping.{kept_of}
use Rattle.node.specs.declared.node.Node.{Node}
use Rattle.processes.specs.Events.{MayStart}
use Rattle.processes.specs.Processes.{Process}
use Rattle.network.specs.Events.{Event, world_after}
use Rattle.network.specs.Premises.{MayHappenInTurn}
use Rattle.network.specs.Worlds.{World}
use Rattle.example_tests.specs.RecordExamples.{whole}
use Rattle.example_tests.specs.Scripts.{letter, restarted, start, three_nodes, to_keep}
use Rattle.example_tests.specs.NodeExamples.{read}
use Rattle.example_tests.specs.Forgetting.{write_to_two}

-- The log of node 0

-- what the entries have as the digest of the cluster file: 16 zeros, whatever the digest of the file of the run is
abbrev pub some_digest : List ℕ
some_digest = replicate 16 0

-- the strings of the log entry which records that a node served this request about the object of this name
abbrev pub served_entry : (name : List ℕ) → Message → Strings
served_entry name message = record_strings (record_of.Serve (strings_of (record {
  digest = some_digest;
  named = record {
    name = name;
    letter = record {
      layout = three_nodes;
      next = None;
      start = None;
      asks_piece = false;
      told = None;
      message = message;
    };
  };
})))

-- whether the message is a request of a write by which a bank changes
abbrev pub changes_bank : Body → Bool
changes_bank (body.Request (request.PreWrite tag piece)) = true
changes_bank (body.Request (request.Finalize tag)) = true
changes_bank said = false

-- the requests of writes by which the bank of this member changes in these events, in order
abbrev pub changes_of : (member : ℕ) → List Event → List Message
changes_of member [] = []
changes_of member (Event.Serve message ∷ events) =
    if message.member == member && changes_bank message.body
    then message ∷ changes_of member events else changes_of member events
changes_of member (event ∷ events) = changes_of member events

-- the entries that a node synced before the write was answered: the first names the cluster and the node, the second
-- records its start, and the other two that it kept its piece and finalized the tag
abbrev pub entries_of : (number : ℕ) → List Strings
entries_of number =
    record_strings (record_of.Cluster some_digest number) ∷ record_strings record_of.Start
    ∷ map (served_entry (97 ∷ [])) (changes_of number write_to_two)

-- those of node 0
abbrev pub synced_entries : List Strings
synced_entries = entries_of 0

-- an entry about another object, of whose write node 0 was to keep a piece
abbrev pub unsynced_entry : Strings
unsynced_entry = served_entry (98 ∷ [])
    (record { call = 9; phase = 3; position = 0; member = 0; body = body.Request (to_keep 0) })

-- the entries of the log as the node stops, of which the last one is being synced
abbrev pub stopped_log : List Strings
stopped_log = synced_entries ++ unsynced_entry ∷ []

-- what is on the disk then: of the last entry only the head, which has 16 bytes, and two more bytes, and then 9 zeros
abbrev pub stopped_disk : List ℕ
stopped_disk =
    (log_bytes first_chain synced_entries
    ++ take 18 (log_entry_bytes (chain_behind first_chain synced_entries) unsynced_entry))
    ++ replicate 9 0

-- behind the synced entries the log ends
abbrev pub SyncedAreRead : Type 0
SyncedAreRead = AllByRecursion IsWholeEntry synced_entries × BeginsWith first_chain synced_entries IsEnd stopped_disk

-- and no other entries are read
abbrev pub OnlySyncedAreRead : Type 0
OnlySyncedAreRead = (read : List Strings) → AllByRecursion IsWholeEntry read
    → BeginsWith first_chain read IsEnd stopped_disk → read ≡ synced_entries

-- The start from this log

-- the process of node 0 as it stops: the first four entries of its log are synced
abbrev pub stopped_process : Process
stopped_process = record { running = None; log = stopped_log; synced = 4; frames = []; answers = [] }

-- what a node keeps of the object of the write
abbrev pub object_of : Node → LocalObject
object_of node = (kept_of node.keeper).objects (97 ∷ [])

-- the calls that other nodes than this one carry out
abbrev pub calls_of_others : (number : ℕ) → List NodeCall → List NodeCall
calls_of_others number calls = filter (λ (call : NodeCall). not (call.node == number)) calls

-- the bank that a node keeps, if it is open; in the place of a closed one, a bank that knows nothing
abbrev pub open_or_lost : KeptBank → Bank
open_or_lost (kept.Open bank) = bank
open_or_lost (kept.Closed closed) = no_bank

-- the node of this number, which is the member of this number, has started again as `node`: its bank and its calls are
-- what that keeps of the object; those of other nodes are as in this world
abbrev pub restarted_as : (number : ℕ) → Node → World → Event
restarted_as number node world =
    Event.Restart number
    (slice_set world.banks 0
    (slice_set (get_or world.banks 0 []) number (open_or_lost (bank_here (object_of node) 0 number))))
    ((object_of node).calls ++ calls_of_others number world.calls)

-- The run

-- node 0 writes to the nodes 0 and 1, and the write is answered; node 0 stops and starts again with what it kept of
-- this object; and node 2 reads from the nodes 0 and 2
abbrev pub stop_after_write : List Event
stop_after_write = write_to_two ++ (restarted 0 (world_after whole write_to_two start) ∷ read 0)

-- the entries of both calls: the write has the events 1 to 26, and the read has 28 to 49
abbrev pub stop_after_write_entries : List Entry
stop_after_write_entries =
    record { call = 7; kind = operation.Write; called = 1; answered = Some 26; value = Some letter }
    ∷ record { call = 3; kind = operation.Read; called = 28; answered = Some 49; value = Some letter } ∷ []

-- the same events, but node 0 starts again as this node
abbrev pub stop_after_write_as : Node → List Event
stop_after_write_as node = write_to_two ++ (restarted_as 0 node (world_after whole write_to_two start) ∷ read 0)

-- Whatever bytes the stop left of the log, and whichever node starts from them, also if it writes the log anew: the run
-- meets all premises if node 0 starts again as this node, so the read returns the value. In the cluster file, all three
-- nodes are members of the object, and banks keep all versions.
abbrev pub StartedNodeHasWrite : Type 0
StartedNodeHasWrite = (names : FileOfNames) (read : List Strings) (anew : Option (List Strings))
    (new copy after : Node) → names.delta ≡ None → names.first (97 ∷ []) ≡ three_nodes →
    MayStart names 0 stopped_process read anew new copy after →
    MayHappenInTurn whole (stop_after_write_as after) start
    × ((world_after whole (stop_after_write_as after) start).history ≡ stop_after_write_entries)
