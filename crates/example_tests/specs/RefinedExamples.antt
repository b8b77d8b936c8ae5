-- The contracts that docs/trusted.md lists do not depend on this file; other contracts and proofs do.
-- Runs of two nodes, of which node 0 is the only member of the object's layout, and the entries that they leave.
use Rattle.std.specs.Prelude.{◌≡◌, ◌+◌, ◌*◌, ℕ, true, false, List, [], ◌∷◌, ◌++◌, Option, None, Some}
use Rattle.layout.specs.Layout.{Layout}
use Rattle.tag.specs.declared.tag.Tag.{Tag}
use Rattle.tag.specs.Tag.{opening_tag}
use Rattle.piece.specs.declared.piece.Piece.{Piece}
use Rattle.bank.specs.Bank.{empty_piece}
use Rattle.bank.specs.Serve.{kind_of}
use Rattle.bank.specs.declared.kind.Kind.{Kind}
use Rattle.bank.specs.declared.reply.Answer.{Answer}
use Rattle.bank.specs.declared.reply.Answer.TheVariants.{Pointer, Done, Greatest}
use Rattle.bank.specs.declared.reply.Answer.TheVariants as answer
use Rattle.bank.specs.declared.request.Request.{Request}
use Rattle.bank.specs.declared.request.Request.TheVariants as request
use Rattle.bank.specs.declared.status.Status.TheVariants.{Unset}
use Rattle.mail.specs.declared.message.Body.{Body}
use Rattle.mail.specs.declared.message.Body.TheVariants as body
use Rattle.record.specs.declared.call.Entry.{Entry}
use Rattle.record.specs.declared.call.Operation.TheVariants as operation
use Rattle.network.specs.Worlds.{ClusterFile}
use Rattle.letter.specs.declared.letter.Letter.{Letter}
use Rattle.letter.specs.declared.telling.Telling.{Telling}
use Rattle.local_object.specs.Events.{LocalEvent}
use Rattle.refinement.specs.Systems.{MayRunIn, System, SystemEvent, opened_system, system_run}
use Rattle.example_tests.specs.RecordExamples.{whole}
use Rattle.example_tests.specs.Scripts.{letter, to_keep, write_tag}

-- a layout whose only member is node 0
abbrev pub one_node : Layout
one_node = record { k = 1; members = 0 ∷ [] }

-- the cluster file of all nodes, whose banks keep all versions
abbrev pub one_file : ClusterFile
one_file = record { delta = None; mover = 0; first = one_node }

-- all nodes before the first event
abbrev pub start : System
start = opened_system (λ node. one_file)

-- a letter between a phase of a call and node 0, from a node whose start is position 0; it asks for no piece, and tells
-- nothing
abbrev pub about : (call phase : ℕ) → Body → Letter
about call phase said = record {
  layout = one_node;
  next = None;
  start = None;
  asks_piece = false;
  told = None;
  message = record { call = call; phase = phase; position = 0; member = 0; body = said };
}

-- what node 0 tells of its bank: it knows of no later position, and this is its greatest finalized tag; and its piece
-- of the tag, if it tells one
abbrev pub telling : Tag → Option Piece → Telling
telling greatest piece = record { status = Unset; greatest = greatest; piece = piece }

-- the reply of node 0 to a phase of a call, with which it tells this
abbrev pub replied : (call phase : ℕ) → Kind → Answer → Telling → Letter
replied call phase kind said told =
    record (about call phase (body.Reply kind (record { step = 0; answer = said }))) { told = Some told }

-- node 0 serves the request of a phase of a call of node 1, and the call takes the answer; this is then the greatest
-- tag that node 0 has finalized
abbrev pub exchanged : (call phase : ℕ) → Request → Answer → (greatest : Tag) → List SystemEvent
exchanged call phase asked said greatest =
    SystemEvent.Acts 0 (LocalEvent.Serve (about call phase (body.Request asked)))
    ∷ SystemEvent.Acts 1 (LocalEvent.Take (replied call phase (kind_of asked) said (telling greatest None))) ∷ []

-- the call of node 1 with this id begins the phase that is due
abbrev pub begins_phase : (call : ℕ) → SystemEvent
begins_phase call = SystemEvent.Acts 1 (LocalEvent.Advance call)

-- node 1 begins to write the value: node 0 knows of no later position
abbrev pub write_begun : List SystemEvent
write_begun =
    SystemEvent.Acts 1 (LocalEvent.BeginWrite 7 letter) ∷ exchanged 7 1 request.Next (Pointer Unset) opening_tag

-- node 1 begins to write: node 0 knows of no later position and, when asked next, of no tag but the opening tag
abbrev pub write_asked : List SystemEvent
write_asked = write_begun ++ (begins_phase 7 ∷ exchanged 7 2 request.Query (Greatest opening_tag) opening_tag)

-- node 0 keeps its piece
abbrev pub write_sent : List SystemEvent
write_sent = begins_phase 7 ∷ exchanged 7 3 (to_keep 0) Done opening_tag

-- node 0 keeps its piece, and finalizes the write's tag
abbrev pub write_kept : List SystemEvent
write_kept = write_sent ++ (begins_phase 7 ∷ exchanged 7 4 (request.Finalize write_tag) Done write_tag)

-- node 0 still knows of no later position, and the write is answered
abbrev pub write_ended : List SystemEvent
write_ended =
    begins_phase 7
    ∷ (exchanged 7 5 request.Next (Pointer Unset) write_tag ++ (SystemEvent.Acts 1 (LocalEvent.Answer 7) ∷ []))

-- node 0 stops and starts again, and keeps what it kept
abbrev pub restarted : System → List SystemEvent
restarted system = SystemEvent.Restarts 0 (system.objects 0) ∷ []

-- node 1 begins to read, and asks for the piece of the greatest finalized tag, too: node 0 knows of no later position,
-- and tells this tag and this piece
abbrev pub read_told : Tag → Piece → List SystemEvent
read_told greatest piece =
    SystemEvent.Acts 1 (LocalEvent.BeginRead 3)
    ∷ SystemEvent.Acts 0 (LocalEvent.Serve (record (about 3 1 (body.Request request.Next)) { asks_piece = true }))
    ∷ SystemEvent.Acts 1
    (LocalEvent.Take (replied 3 1 (kind_of request.Next) (Pointer Unset) (telling greatest (Some piece)))) ∷ []

-- node 1 begins to read: node 0 knows of no later position, and has finalized no tag but the opening tag
abbrev pub read_begun : List SystemEvent
read_begun = read_told opening_tag (empty_piece 0)

-- node 1 begins to read: node 0 knows of no later position and, when asked next, of no tag but the opening tag
abbrev pub read_asked : List SystemEvent
read_asked = read_begun ++ (begins_phase 3 ∷ exchanged 3 2 request.Query (Greatest opening_tag) opening_tag)

-- node 0 has a piece of the empty value, which the read settles
abbrev pub read_settled : List SystemEvent
read_settled =
    begins_phase 3
    ∷ (exchanged 3 3 (request.Fetch opening_tag) (answer.Piece (Some (empty_piece 0))) opening_tag
    ++ (SystemEvent.Acts 1 (LocalEvent.Settle 3 []) ∷ []))

-- node 0 still knows of no later position, and the read is answered
abbrev pub read_ended : List SystemEvent
read_ended =
    begins_phase 3
    ∷ (exchanged 3 4 request.Next (Pointer Unset) opening_tag ++ (SystemEvent.Acts 1 (LocalEvent.Answer 3) ∷ []))

-- The runs

-- the whole write of node 1, from its first event to its answer
abbrev pub write : List SystemEvent
write = write_asked ++ (write_kept ++ write_ended)

-- node 1 writes a value, and node 0 stops and starts again
abbrev pub write_and_restart : List SystemEvent
write_and_restart = write ++ restarted (system_run whole write start)

-- node 1 reads an object that was never written
abbrev pub read : List SystemEvent
read = read_asked ++ (read_settled ++ read_ended)

-- these events may happen, and they leave these entries
abbrev pub IsRun : List SystemEvent → List Entry → Type 0
IsRun events entries = MayRunIn whole events start × ((system_run whole events start).history ≡ entries)

-- the nodes do 16 things for the write; behind each of the first 15, which is one event, there are 511 in reserve, so
-- the write is answered at the event 15 * 512 + 1; and then comes the restart
abbrev pub AWriteAndARestart : Type 0
AWriteAndARestart = IsRun write_and_restart
    (record { call = 7; kind = operation.Write; called = 1; answered = Some (15 * 512 + 1); value = Some letter } ∷ [])

-- the nodes do 14 things for the read, which is answered at the event 13 * 512 + 1, and returns the empty value
abbrev pub AReadOfANewObject : Type 0
AReadOfANewObject = IsRun read
    (record { call = 3; kind = operation.Read; called = 1; answered = Some (13 * 512 + 1); value = Some [] } ∷ [])
