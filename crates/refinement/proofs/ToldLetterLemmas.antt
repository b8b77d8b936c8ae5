-- What the letters tell that a node sends is true in the course.
use Rattle.std.proofs.Common.{◌≡◌, ℕ, suc, Bool, false, List, [], ◌∷◌, map, Option, None, Some}
use Rattle.std.specs.List.{AllByRecursion}
use Rattle.layout.specs.Layout.{Layout}
use Rattle.bank.specs.Bank.{empty_piece}
use Rattle.bank.specs.declared.kind.Kind.{Kind}
use Rattle.bank.specs.declared.kind.Kind.TheVariants.{Next, Spread}
use Rattle.bank.specs.declared.status.Status.TheVariants.{Pending}
use Rattle.mail.specs.declared.message.Message.{Message}
use Rattle.record.specs.declared.call.CallKind.{CallKind}
use Rattle.record.specs.declared.call.CallKind.TheVariants.{Read, Write, Move}
use Rattle.record.specs.declared.stage.Stage.{Stage}
use Rattle.record.specs.declared.stage.Stage.TheVariants.{ReadNext}
use Rattle.record.specs.Fragments.{Code}
use Rattle.record.specs.Legal.{first_stage}
use Rattle.record.specs.Sending.{requests}
use Rattle.soundness.proofs.ListLemmas.{all_get}
use Rattle.open_calls.specs.OpenCalls.{NodeCall, due_phase, open_call, with_open}
use Rattle.letter.specs.declared.letter.Letter.{Letter}
use Rattle.network.specs.Events.{Event}
use Rattle.local_object.specs.Events.{LocalEvent, advanced_at, advanced_here, done_here, pieces_here, queried_here, taking_here}
use Rattle.local_object.specs.Local.{LocalObject, last_position, layout_here, with_heard}
use Rattle.local_object.specs.May.{MayHappenHere}
use Rattle.local_object.specs.Outcomes.{Outcome, begun_here, is_read, learnt_from, letter_of, on_open_call, silent}
use Rattle.local_object.specs.Resent.{IsResent, current_letters}
use Rattle.local_object.specs.Sent.{asks_piece}
use Rattle.local_object.specs.Starting.{anew_number, first_number, number_at, reads_at, reads_here}
use Rattle.told_replies.specs.Tellings.{world_of}
use Rattle.told_queries.specs.Courses.{Course, Turn, run_of}
use Rattle.refinement.specs.Parts.{IsPartOf, WasSentAs}
use Rattle.refinement.specs.Refined.{world_events}
use Rattle.refinement.specs.Starting.{about}
use Rattle.refinement.specs.ToldLetters.{TellsTruth}
use Rattle.refinement.specs.WellFormed.{IsWellFormed}
use Rattle.refinement.proofs.EarlyRunLemmas.{course_longer, letter_later}
use Rattle.refinement.proofs.ServedTellingLemmas.{served_tell}

-- a letter that is served was sent, and one that is taken or sent back tells the truth
abbrev pub HearsTruth : Code → Course → LocalEvent → Type 0
HearsTruth fragment course (LocalEvent.Serve letter) = WasSentAs (world_of fragment (run_of course)) letter
HearsTruth fragment course (LocalEvent.Take letter) = TellsTruth fragment course letter
HearsTruth fragment course (LocalEvent.Redirect letter) = TellsTruth fragment course letter
HearsTruth fragment course _ = Unit {0}

-- these events of the world are those of a served letter, if the node serves one
abbrev pub AreServedBy : LocalObject → LocalEvent → List Event → Type 0
AreServedBy local (LocalEvent.Serve letter) events = events ≡ world_events local (LocalEvent.Serve letter)
AreServedBy local _ events = Unit {0}

-- letters of messages tell nothing
none_told : (fragment : Code) (course : Course) (local : LocalObject) (asks : Bool) (layout : Layout) (messages : List Message) →
    AllByRecursion (TellsTruth fragment course) (map (letter_of local asks layout) messages)
none_told fragment course local asks layout [] = tt
none_told fragment course local asks layout (message ∷ messages) =
    (λ telling told. absurd (cc), none_told fragment course local asks layout messages)

module _ (fragment : Code) (course : Course) where
  abbrev Truth : Outcome → Type 0
  Truth done = AllByRecursion (TellsTruth fragment course) done.sent

  begun : (local : LocalObject) (id : ℕ) (call_kind : CallKind) (stage : Stage) (kind : Kind) (number position : ℕ)
      (o : Option Layout) → Truth (begun_here local id call_kind stage kind number position o)
  begun local id call_kind stage kind number position None = tt
  begun local id call_kind stage kind number position (Some layout) =
      none_told fragment course local (is_read call_kind) layout (requests id number kind position layout.members 0 empty_piece)

  advanced_to : (local : LocalObject) (call : NodeCall) (next : Kind × ℕ) (o : Option Layout) →
      Truth (advanced_at fragment local call next o)
  advanced_to local call next None = tt
  advanced_to local call next (Some layout) =
      none_told fragment course local false layout
      (requests call.id (suc call.phase.number) next.0 next.1 layout.members 0 (pieces_here fragment layout call))

  advanced : (local : LocalObject) (call : NodeCall) (o : Option (Kind × ℕ)) → Truth (advanced_here fragment local call o)
  advanced local call None = tt
  advanced local call (Some next) = advanced_to local call next (layout_here local next.1)

  read_at : (local : LocalObject) (call : NodeCall) (number start : ℕ) (o : Option Layout) →
      Truth (reads_at local call number start o)
  read_at local call number start None = tt
  read_at local call number start (Some layout) =
      none_told fragment course local (is_read call.kind) layout (requests call.id number Next start layout.members 0 empty_piece)

  queried_silent : (local : LocalObject) (call : NodeCall) (o : Option Layout) → Truth (queried_here local call o)
  queried_silent local call None = tt
  queried_silent local call (Some layout) = tt

  carried : (local : LocalObject) (o : Option NodeCall) (change : NodeCall → Outcome) →
      ((call : NodeCall) → Truth (change call)) → Truth (on_open_call local o change)
  carried local None change each = tt
  carried local (Some call) change each = each call

-- the letters of an event at a node tell the truth, once the event's events of the world have happened
pub sent_tell : (fragment : Code) (course : Course) (local : LocalObject) (event : LocalEvent) (turn : Turn) → turn.call ≡ about event →
    IsWellFormed fragment (world_of fragment (run_of course)) → IsPartOf (world_of fragment (run_of course)) local →
    MayHappenHere fragment local event → HearsTruth fragment course event → AreServedBy local event turn.acts →
    AllByRecursion (TellsTruth fragment (course_longer course turn)) (done_here fragment local event).sent
sent_tell fragment course local (LocalEvent.BeginRead id) turn same formed part may hears served =
    begun fragment (course_longer course turn) local id Read (ReadNext local.start local.start) Next (first_number local.start) local.start
    (layout_here local local.start)
sent_tell fragment course local (LocalEvent.BeginWrite id value) turn same formed part may hears served =
    begun fragment (course_longer course turn) local id (Write value) (ReadNext local.start local.start) Next (first_number local.start)
    local.start (layout_here local local.start)
sent_tell fragment course local (LocalEvent.BeginMove id layout) turn same formed part may hears served =
    let last = last_position local in
    let next = with_heard local (suc last) layout in
    begun fragment (course_longer course turn) next id Move (first_stage Move last) (Spread Pending) 1 last (layout_here next last)
sent_tell fragment course local (LocalEvent.Advance id) turn same formed part may hears served =
    carried fragment (course_longer course turn) local (open_call local.calls id)
    (λ call. advanced_here fragment local call (due_phase call))
    (λ call. advanced fragment (course_longer course turn) local call (due_phase call))
sent_tell fragment course local (LocalEvent.Serve letter) turn same formed part may hears served =
    served_tell fragment course local letter formed part may hears turn same served
sent_tell fragment course local (LocalEvent.Take letter) turn same formed part may hears served =
    let next = learnt_from local letter in
    carried fragment (course_longer course turn) next (open_call next.calls letter.message.call)
    (λ call. silent (taking_here next call letter.message letter.told)) (λ call. tt)
sent_tell fragment course local (LocalEvent.Settle id value) turn same formed part may hears served =
    carried fragment (course_longer course turn) local (open_call local.calls id)
    (λ call. silent (record local { calls = with_open (record call { settled = Some value }) local.calls })) (λ call. tt)
sent_tell fragment course local (LocalEvent.Redirect letter) turn same formed part may hears served =
    (letter_later fragment course turn letter hears, tt)
sent_tell fragment course local (LocalEvent.ReadOn id) turn same formed part may hears served =
    carried fragment (course_longer course turn) local (open_call local.calls id)
    (λ call. reads_here local call (number_at call local.start))
    (λ call. read_at fragment (course_longer course turn) local call (number_at call local.start) local.start
    (layout_here local local.start))
sent_tell fragment course local (LocalEvent.BeginAnew id) turn same formed part may hears served =
    carried fragment (course_longer course turn) local (open_call local.calls id)
    (λ call. reads_here local call (anew_number call local.start))
    (λ call. read_at fragment (course_longer course turn) local call (anew_number call local.start) local.start
    (layout_here local local.start))
sent_tell fragment course local (LocalEvent.Query id) turn same formed part may hears served =
    carried fragment (course_longer course turn) local (open_call local.calls id)
    (λ call. queried_here local call (layout_here local call.phase.position))
    (λ call. queried_silent fragment (course_longer course turn) local call (layout_here local call.phase.position))
sent_tell fragment course local _ turn same formed part may hears served = tt

-- a letter that is sent again tells nothing
pub resent_tell : (fragment : Code) (course : Course) (local : LocalObject) (letter : Letter) → IsResent fragment local letter →
    TellsTruth fragment course letter
resent_tell fragment course local letter again =
    let call = again.call in
    let layout = again.layout in
    all_get (TellsTruth fragment course) (current_letters fragment local call layout) again.place letter
    (none_told fragment course local (asks_piece call.kind call.stage) layout
    (requests call.id call.phase.number call.phase.kind call.phase.position layout.members 0 (pieces_here fragment layout call)))
    again.at
