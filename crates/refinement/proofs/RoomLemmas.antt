-- There stays room for a query of a call as a course goes on, and there is room where its phase begins.
use Rattle.std.proofs.Common.{◌≡◌, ◌<◌, ℕ, eq-eqb, cond, List, [], ◌∷◌, ◌++◌, is_some, length, Some}
use Rattle.std.proofs.Common.{append_assoc, refl, sym, subst, ap, ◌∙◌, slice_get, arith}
use Rattle.std.proofs.lemmas.Option.{get_or_from_slice_get}
use Rattle.std.specs.List.{AllByRecursion}
use Rattle.layout.specs.Layout.{Layout}
use Rattle.piece.specs.declared.piece.Piece.{Piece}
use Rattle.bank.specs.Bank.{empty_piece}
use Rattle.bank.specs.declared.kind.Kind.TheVariants.{Next}
use Rattle.mail.specs.declared.message.Message.{Message}
use Rattle.record.specs.Fragments.{Code}
use Rattle.record.specs.Records.{no_layout}
use Rattle.record.specs.Sending.{request_to, requests}
use Rattle.open_calls.specs.OpenCalls.{NodeCall, NodeCallsDiffer, open_call}
use Rattle.open_calls.proofs.CallsOfNodeLemmas.{differs}
use Rattle.open_calls.proofs.OpenCallLemmas.{found}
use Rattle.network.specs.Worlds.{World, known_layout, known_layouts, opened_world}
use Rattle.network.specs.Events.{Event, IsOpen, happens, world_after}
use Rattle.network.proofs.OneFileLemmas.{layouts_known}
use Rattle.starts.specs.Reading.{HasSent}
use Rattle.local_object.specs.Events.{pieces_here}
use Rattle.told_replies.specs.Tellings.{world_of}
use Rattle.told_queries.specs.Courses.{AreWaits, Course, HasRoom, ServesLeaveRoom, Turn, as_begun, events_of, run_of, spare_events}
use Rattle.told_queries.specs.Courses.{turn_events, world_after_turns}
use Rattle.told_queries.specs.Laws.{IsFirstReading}
use Rattle.refinement.specs.Systems.{HasRoomIfReading}
use Rattle.refinement.specs.WellFormed.{HasAsked, IsWellFormed}
use Rattle.refinement.proofs.BegunCallLemmas.{same_requests}
use Rattle.refinement.proofs.EarlyRunLemmas.{course_longer, events_append}
use Rattle.refinement.proofs.EventRunLemmas.{run_append}

-- Room stays

-- if the turn serves a request in this world, then it leaves room
abbrev pub LeavesRoom : Code → World → Turn → Type 0
LeavesRoom fragment world turn = (request : Message) → turn.acts ≡ Event.Serve request ∷ [] →
    (0 < length turn.spare) × AreWaits (happens fragment world (Event.Serve request)) turn.spare

some_spare : 0 < spare_events
some_spare = omega arith

-- so it does with waits in reserve
pub waits_leave_room : (fragment : Code) (world : World) (turn : Turn) → length turn.spare ≡ spare_events →
    AreWaits (world_after fragment turn.acts world) turn.spare → LeavesRoom fragment world turn
waits_leave_room fragment world turn enough waits request acts = (
  subst (λ n. 0 < n) (sym enough) some_spare,
  subst (λ events. AreWaits (world_after fragment events world) turn.spare) acts waits,
)

serves_later : (fragment : Code) (call number : ℕ) (world : World) (turns : List Turn) (turn : Turn) →
    ServesLeaveRoom fragment call number world turns →
    LeavesRoom fragment (world_after fragment (events_of turns) world) turn →
    ServesLeaveRoom fragment call number world (turns ++ turn ∷ [])
serves_later fragment call number world [] turn serve leaves = (λ request about acts same phase. leaves request acts, tt)
serves_later fragment call number world (first ∷ turns) turn serve leaves = (
  serve.0,
  serves_later fragment call number (world_after fragment (turn_events first) world) turns turn serve.1
      (subst (λ w. LeavesRoom fragment w turn) (run_append fragment (turn_events first) (events_of turns) world) leaves),
)

-- the world after some turns, one turn and more turns
after_split : (fragment : Code) (course : Course) (before : List Turn) (turn : Turn) (after : List Turn) →
    course.turns ≡ before ++ turn ∷ after → world_of fragment (run_of course)
    ≡ world_after fragment (events_of after)
    (world_after fragment (turn_events turn) (world_after_turns fragment course.files before))
after_split fragment course before turn after split =
    ap (λ turns. world_after fragment (events_of turns) (opened_world course.files)) split
    ∙ ap (λ events. world_after fragment events (opened_world course.files)) (events_append before (turn ∷ after))
    ∙ run_append fragment (events_of before) (turn_events turn ++ events_of after) (opened_world course.files)
    ∙ run_append fragment (turn_events turn) (events_of after) (world_after_turns fragment course.files before)

pub room_later : (fragment : Code) (course : Course) (turn : Turn) (call : NodeCall) →
    LeavesRoom fragment (world_of fragment (run_of course)) turn → HasRoom fragment course call →
    HasRoom fragment (course_longer course turn) call
room_later fragment course turn call leaves room = record {
  before = room.before;
  turn = room.turn;
  after = room.after ++ turn ∷ [];
  split = ap (λ turns. turns ++ turn ∷ []) room.split ∙ append_assoc room.before (room.turn ∷ room.after) (turn ∷ []);
  about = room.about;
  fresh = room.fresh;
  begun = room.begun;
  placed = room.placed;
  asked = room.asked;
  waits = room.waits;
  enough = room.enough;
  serves = serves_later fragment call.id call.phase.number
      (world_after fragment (turn_events room.turn) (world_after_turns fragment course.files room.before)) room.after turn room.serves
      (subst (λ w. LeavesRoom fragment w turn) (after_split fragment course room.before room.turn room.after room.split) leaves);
}

-- more replies change nothing

begun_reads : (call : NodeCall) → IsFirstReading call → IsFirstReading (as_begun call)
begun_reads call reads = record { client = reads.client; stage = reads.stage; kind = reads.kind }

reads_begun : (call : NodeCall) → IsFirstReading (as_begun call) → IsFirstReading call
reads_begun call reads = record { client = reads.client; stage = reads.stage; kind = reads.kind }

begun_room : (fragment : Code) (course : Course) (call : NodeCall) → HasRoom fragment course call →
    HasRoom fragment course (as_begun call)
begun_room fragment course call room = record {
  before = room.before;
  turn = room.turn;
  after = room.after;
  split = room.split;
  about = room.about;
  fresh = room.fresh;
  begun = room.begun;
  placed = room.placed;
  asked = room.asked;
  waits = room.waits;
  enough = room.enough;
  serves = room.serves;
}

room_begun : (fragment : Code) (course : Course) (call : NodeCall) → HasRoom fragment course (as_begun call) →
    HasRoom fragment course call
room_begun fragment course call room = record {
  before = room.before;
  turn = room.turn;
  after = room.after;
  split = room.split;
  about = room.about;
  fresh = room.fresh;
  begun = room.begun;
  placed = room.placed;
  asked = room.asked;
  waits = room.waits;
  enough = room.enough;
  serves = room.serves;
}

-- there is room for two calls alike if their phases began alike
pub room_alike : (fragment : Code) (course : Course) (call other : NodeCall) → as_begun call ≡ as_begun other →
    HasRoomIfReading fragment course call → HasRoomIfReading fragment course other
room_alike fragment course call other same has reads =
    room_begun fragment course other
    (subst (HasRoom fragment course) same
    (begun_room fragment course call
    (has (reads_begun call (subst IsFirstReading (sym same) (begun_reads other reads))))))

-- A new phase

-- the requests of an open call that asks for pointers were sent
pub asked_there : (fragment : Code) (world : World) (call : NodeCall) → IsWellFormed fragment world → IsOpen world call.id call →
    call.phase.kind ≡ Next → HasSent world call
asked_there fragment world call formed open_there kind place message at =
    let has = (found (HasAsked fragment world) world.calls call.id call formed.asked open_there).0 in
    let layout : known_layout world call.node call.phase.position ≡ has.layout =
    get_or_from_slice_get (known_layouts world call.node) call.phase.position has.layout no_layout
    (ap (λ layouts. slice_get layouts call.phase.position) (sym (layouts_known world formed.one call.node)) ∙ has.at) in
    has.asked place message
    (ap (λ messages. slice_get messages place)
    (same_requests call.id call.phase.number call.phase.kind call.phase.position has.layout.members 0
    (pieces_here fragment has.layout call) empty_piece
    (subst (λ k. (p q : Piece) → request_to k p ≡ request_to k q) (sym kind) (λ p q. refl))
    ∙ ap (λ (l : Layout). requests call.id call.phase.number call.phase.kind call.phase.position l.members 0 empty_piece)
    (sym layout)) ∙ at)

-- no open call with this id is in a phase of this number
abbrev pub IsFresh : World → (id number : ℕ) → Type 0
IsFresh world id number = (earlier : NodeCall) → IsOpen world id earlier → earlier.phase.number ≡ number → ⊥

-- a phase that begins in the last turn, which is about its call and has enough in reserve
pub room_new : (fragment : Code) (course : Course) (turn : Turn) (call : NodeCall) → turn.call ≡ call.id → as_begun call ≡ call →
    IsFresh (world_of fragment (run_of course)) call.id call.phase.number →
    IsWellFormed fragment (world_after fragment turn.acts (world_of fragment (run_of course))) →
    IsOpen (world_after fragment turn.acts (world_of fragment (run_of course))) call.id call →
    AreWaits (world_after fragment turn.acts (world_of fragment (run_of course))) turn.spare → length turn.spare ≡ spare_events →
    HasRoomIfReading fragment (course_longer course turn) call
room_new fragment course turn call about new fresh formed open_there waits enough reads =
    let later = world_after fragment turn.acts (world_of fragment (run_of course)) in record {
      before = course.turns;
      turn = turn;
      after = [];
      split = refl;
      about = about;
      fresh = fresh;
      begun = subst (IsOpen later call.id) (sym new) open_there;
      placed = ap is_some (found (HasAsked fragment later) later.calls call.id call formed.asked open_there).0.at;
      asked = subst (HasSent later) (sym new) (asked_there fragment later call formed open_there reads.kind);
      waits = waits;
      enough = enough;
      serves = tt;
    }

-- Calls of lists

-- calls with distinct ids are open
pub all_open : (calls : List NodeCall) → NodeCallsDiffer calls → AllByRecursion (λ call. open_call calls call.id ≡ Some call) calls
all_open [] differ = tt
all_open (call ∷ calls) differ = (
  ap (λ b. cond b (Some call) (open_call calls call.id)) (eq-eqb call.id call.id refl),
  later calls differ.0 (all_open calls differ.1),
)
  where
    later : (rest : List NodeCall) → AllByRecursion (λ other. other.id ≡ call.id → ⊥) rest →
        AllByRecursion (λ other. open_call calls other.id ≡ Some other) rest →
        AllByRecursion (λ other. open_call (call ∷ calls) other.id ≡ Some other) rest
    later [] apart opens = tt
    later (other ∷ rest) apart opens = (
      ap (λ b. cond b (Some call) (open_call calls other.id)) (differs call.id other.id (λ same. apart.0 (sym same))) ∙ opens.0,
      later rest apart.1 opens.1,
    )
