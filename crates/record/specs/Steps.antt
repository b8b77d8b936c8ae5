-- The record after each kind of step. `now` is the number of the step.
use Rattle.std.specs.Prelude.{ℕ, suc, pred, is_some, Option, Some, None}
use Rattle.std.specs.Prelude.{if◌then◌else◌, List, [], ◌∷◌, ◌++◌, length, map, get_or, slice_get, slice_set}
use Rattle.std.specs.List.{remove}
use Rattle.layout.specs.Layout.{Layout, quorum_of}
use Rattle.piece.specs.declared.piece.Piece.{Piece}
use Rattle.bank.specs.Bank.{Bank, opened_bank, empty_piece}
use Rattle.bank.specs.Collect.{retired_bank}
use Rattle.bank.specs.Serve.{served_bank, reply_to}
use Rattle.bank.specs.declared.kind.Kind.{Kind}
use Rattle.bank.specs.declared.kind.Kind.TheVariants.{Next, Spread}
use Rattle.bank.specs.declared.request.Request.{Request}
use Rattle.bank.specs.declared.status.Status.TheVariants.{Pending}
use Rattle.mail.specs.declared.message.Message.{Message}
use Rattle.mail.specs.declared.message.Body.{Body}
use Rattle.mail.specs.declared.message.Body.TheVariants as body
use Rattle.mail.specs.Message.{answered}
use Rattle.mail.specs.Phase.{Phase, begun, after_take}
use Rattle.record.specs.declared.call.CallKind.{CallKind}
use Rattle.record.specs.declared.call.CallKind.TheVariants.{Read, Write, Move}
use Rattle.record.specs.Records.{Call, Object, index_by_id, layout_at, bank_at, base_of}
use Rattle.record.specs.Legal.{due_of}
use Rattle.record.specs.Fragments.{Code}
use Rattle.record.specs.Wants.{current_phase}
use Rattle.record.specs.Sending.{sent_pieces, requests, missing_requests}

-- the record with the bank of a member of a position replaced
abbrev pub with_bank : Object → (position member : ℕ) → Bank → Object
with_bank object position member bank =
    record object { banks = slice_set object.banks position (slice_set (get_or object.banks position []) member bank) }

-- the record with the call at an index replaced
abbrev pub with_call : Object → (index : ℕ) → Call → Object
with_call object index call = record object { calls = slice_set object.calls index call }

-- a phase of this kind that begins at step `now`, at a position with this layout
abbrev pub new_phase : (call number : ℕ) → Kind → (position : ℕ) → Layout → (now : ℕ) → Phase
new_phase call number kind position layout now =
    begun call number kind position (length layout.members) (quorum_of layout) layout.k now

-- the record after the call at this index begins a phase, whose requests go to the end of the mail
abbrev pub with_phase : Object → (index : ℕ) → Call → Kind → (position now : ℕ) → (ℕ → Piece) → Object
with_phase object index call kind position now piece =
    let number = suc (length call.phases) in
    record object {
      calls = slice_set object.calls index
          (record call {
            phases = call.phases ++ new_phase call.id number kind position (layout_at object position) now ∷ [];
          });
      mail = object.mail ++ requests call.id number kind position (layout_at object position).members 0 piece;
    }

-- the new banks of the members `member`, `member` + 1 and so on, one for each server
abbrev pub opened_banks : List ℕ → (member : ℕ) → (delta : Option ℕ) → (now : ℕ) → List Bank
opened_banks [] member delta now = []
opened_banks (server ∷ servers) member delta now =
    opened_bank member delta now ∷ opened_banks servers (suc member) delta now

-- a new object with this layout, whose banks keep `delta` finalized versions besides the newest
abbrev pub opened_object : Layout → (delta : Option ℕ) → (now : ℕ) → Object
opened_object layout delta now = record {
  delta = delta;
  layouts = layout ∷ [];
  banks = opened_banks layout.members 0 delta now ∷ [];
  mail = [];
  calls = [];
}

-- Calls

-- a call with this id that begins at step `now`, before its first phase
abbrev pub new_call : (id : ℕ) → CallKind → ℕ → Call
new_call id kind now = record { id = id; kind = kind; called = now; answered = None; settled = None; phases = [] }

-- the record after a read or a write begins, with the first phase of its first reading, at the base
abbrev pub called_object : Object → (id : ℕ) → CallKind → (now : ℕ) → Object
called_object object id kind now =
    let index = length object.calls in
    with_phase (record object { calls = object.calls ++ new_call id kind now ∷ [] }) index
    (new_call id kind now) Next (base_of object) now empty_piece

-- the record after a move begins: it appends the next position with its banks, and begins the move's first phase
abbrev pub moving_object : Object → (id : ℕ) → Layout → (now : ℕ) → Object
moving_object object id layout now =
    let index = length object.calls in
    let last = pred (length object.layouts) in
    with_phase
    (record object {
      layouts = object.layouts ++ layout ∷ [];
      banks = object.banks ++ opened_banks layout.members 0 object.delta now ∷ [];
      calls = object.calls ++ new_call id Move now ∷ [];
    }) index (new_call id Move now) (Spread Pending) last now empty_piece

-- the record after the call begins the phase that is due, if there is one
abbrev pub begun_object : Code → Object → (index : ℕ) → Call → Option (Kind × ℕ) → (now : ℕ) → Object
begun_object fragment object index call None now = object
begun_object fragment object index call (Some next) now =
    with_phase object index call next.0 next.1 now (sent_pieces fragment object call next.1)

-- the record after the call at this index begins the phase that is due
abbrev pub advanced_object : Code → Object → (index : ℕ) → Call → (now : ℕ) → Object
advanced_object fragment object index call now =
    begun_object fragment object index call (due_of object index call) now

-- the record after the call at this index settles a value
abbrev pub settled_object : Object → (index : ℕ) → Call → List ℕ → Object
settled_object object index call value = with_call object index (record call { settled = Some value })

-- the record after the call at this index is answered
abbrev pub answered_object : Object → (index : ℕ) → Call → (now : ℕ) → Object
answered_object object index call now = with_call object index (record call { answered = Some now })

-- the record after a server serves a request: its bank changes, and the reply takes the place of the request
abbrev pub handled_object : Object → (place : ℕ) → Message → Request → (now : ℕ) → Object
handled_object object place message asked now =
    let bank = bank_at object message.position message.member in
    record (with_bank object message.position message.member (served_bank bank asked now)) {
      mail = slice_set object.mail place (answered message (reply_to bank asked now));
    }

-- the record after a message is served if it is a request; a reply stays as it is
abbrev pub served_by : Object → (place : ℕ) → Message → Body → (now : ℕ) → Object
served_by object place message (body.Request asked) now = handled_object object place message asked now
served_by object place message (body.Reply kind made) now = object

-- the phases after the last of them takes the message
abbrev pub taking_phases : List Phase → Message → (now : ℕ) → List Phase
taking_phases [] message now = []
taking_phases (phase ∷ []) message now = after_take phase message now ∷ []
taking_phases (phase ∷ next ∷ later) message now = phase ∷ taking_phases (next ∷ later) message now

-- the call after its current phase takes the message
abbrev pub taking_call : Message → (now : ℕ) → Call → Call
taking_call message now call = record call { phases = taking_phases call.phases message now }

-- the calls after the one whose id the message names, if there is one, takes the message
abbrev pub taken_calls : List Call → Message → (now : ℕ) → Option Call → List Call
taken_calls calls message now None = calls
taken_calls calls message now (Some call) =
    slice_set calls (index_by_id calls message.call) (taking_call message now call)

-- the record after the call whose id the message names takes it, and it leaves the mail
abbrev pub taken_object : Object → (place : ℕ) → Message → (now : ℕ) → Object
taken_object object place message now =
    record object {
      calls = taken_calls object.calls message now
          (slice_get object.calls (index_by_id object.calls message.call));
      mail = remove object.mail place;
    }

-- the record after a message is taken if it is a reply; a request stays as it is
abbrev pub taken_by : Object → (place : ℕ) → Message → Body → (now : ℕ) → Object
taken_by object place message (body.Request asked) now = object
taken_by object place message (body.Reply kind made) now = taken_object object place message now

-- the record after the message at this place is lost
abbrev pub lost_object : Object → (place : ℕ) → Object
lost_object object place = record object { mail = remove object.mail place }

-- the record with one more copy of a message, at the end of the mail
abbrev pub repeated_object : Object → Message → Object
repeated_object object message = record object { mail = object.mail ++ message ∷ [] }

-- the record after the call's current phase resends its missing requests
abbrev pub asked_again : Code → Object → Call → Option Phase → Object
asked_again fragment object call None = object
asked_again fragment object call (Some phase) =
    record object {
      mail = object.mail ++ missing_requests object phase (sent_pieces fragment object call phase.position);
    }

-- the record after a supply: it begins the phase that is due, or resends the requests of the phase if that has begun
abbrev pub supplied_by : Code → Object → (index : ℕ) → Call → (now : ℕ) → Option Phase → Object
supplied_by fragment object index call now None = object
supplied_by fragment object index call now (Some phase) =
    if is_some phase.end then advanced_object fragment object index call now
    else asked_again fragment object call (Some phase)

-- the record after the call at this index is supplied with the pieces of its value
abbrev pub supplied_object : Code → Object → (index : ℕ) → Call → (now : ℕ) → Object
supplied_object fragment object index call now = supplied_by fragment object index call now (current_phase call.phases)

-- the record after the base is retired: its banks drop all pieces, and the next position becomes the base
abbrev pub retired_object : Object → (now : ℕ) → Object
retired_object object now =
    let base = base_of object in
    record object {
      banks = slice_set object.banks base (map (λ bank. retired_bank bank now) (get_or object.banks base []));
    }

-- the steps of an object; a call that begins gets an id, and is then named by its index, and a message by its place in
-- the mail, both from 0
pub data Step : Type 0 where
  CallRead : (id : ℕ) → Step
  CallWrite : (id : ℕ) → List ℕ → Step
  CallMove : (id : ℕ) → Layout → Step
  Advance : (index : ℕ) → Step
  Again : (index : ℕ) → Step
  Supply : (index : ℕ) → Step
  Post : (index : ℕ) → Step
  Settle : (index : ℕ) → List ℕ → Step
  AnswerCall : (index : ℕ) → Step
  Serve : (place : ℕ) → Step
  Take : (place : ℕ) → Step
  Lose : (place : ℕ) → Step
  Repeat : (place : ℕ) → Step
  Retire : Step

-- the record after a change that needs the call, if the call exists
abbrev pub on_call : Object → Option Call → (Call → Object) → Object
on_call object None change = object
on_call object (Some call) change = change call

-- the record after a change that needs the message, if the message exists
abbrev pub on_message : Object → Option Message → (Message → Object) → Object
on_message object None change = object
on_message object (Some message) change = change message

-- the record after a step with this number
abbrev pub stepped : Code → Step → ℕ → Object → Object
stepped fragment (Step.CallRead id) now object = called_object object id Read now
stepped fragment (Step.CallWrite id value) now object = called_object object id (Write value) now
stepped fragment (Step.CallMove id layout) now object = moving_object object id layout now
stepped fragment (Step.Advance index) now object =
    on_call object (slice_get object.calls index) (λ call. advanced_object fragment object index call now)
stepped fragment (Step.Again index) now object =
    on_call object (slice_get object.calls index) (λ call. advanced_object fragment object index call now)
stepped fragment (Step.Supply index) now object =
    on_call object (slice_get object.calls index) (λ call. supplied_object fragment object index call now)
stepped fragment (Step.Post index) now object =
    on_call object (slice_get object.calls index) (λ call. asked_again fragment object call (current_phase call.phases))
stepped fragment (Step.Settle index value) now object =
    on_call object (slice_get object.calls index) (λ call. settled_object object index call value)
stepped fragment (Step.AnswerCall index) now object =
    on_call object (slice_get object.calls index) (λ call. answered_object object index call now)
stepped fragment (Step.Serve place) now object =
    on_message object (slice_get object.mail place) (λ message. served_by object place message message.body now)
stepped fragment (Step.Take place) now object =
    on_message object (slice_get object.mail place) (λ message. taken_by object place message message.body now)
stepped fragment (Step.Lose place) now object = lost_object object place
stepped fragment (Step.Repeat place) now object =
    on_message object (slice_get object.mail place) (λ message. repeated_object object message)
stepped fragment Step.Retire now object = retired_object object now

-- the record after these steps, the first with the number `now`
abbrev pub run : Code → List Step → (now : ℕ) → Object → Object
run fragment [] now object = object
run fragment (step ∷ steps) now object = run fragment steps (suc now) (stepped fragment step now object)
