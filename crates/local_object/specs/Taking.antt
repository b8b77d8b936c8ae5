-- Exactly which events happen after a call took a reply. A call whose complete fetch lacks pieces does not begin anew
-- at once, since it might lack pieces again, and so on for ever. It waits until it sends its requests again, and begins
-- anew when a member replies that had replied before.
use Rattle.std.specs.Prelude.{◌≡◌, ◌⊎◌, ℕ, suc, ◌+◌, ◌^◌, ◌&&◌, ◌||◌, ◌==◌, Bool, true, false, is_some, nat_lt}
use Rattle.std.specs.Prelude.{not, if◌then◌else◌}
use Rattle.std.specs.Prelude.{List, [], ◌∷◌, ◌++◌, Option, None, Some}
use Rattle.bank.specs.declared.kind.Kind.{Kind}
use Rattle.bank.specs.declared.kind.Kind.TheVariants.{Spread}
use Rattle.encoder.specs.Fragment.{fragment}
use Rattle.call.specs.declared.next.Next.{Next}
use Rattle.call.specs.declared.next.Next.TheVariants as next
use Rattle.call.specs.Call.{OpenCall as Machine, reached}
use Rattle.record.specs.Legal.{is_move}
use Rattle.record.specs.declared.stage.Stage.{Stage}
use Rattle.record.specs.declared.stage.Stage.TheVariants.{ReadBegin}
use Rattle.mail.specs.declared.message.Message.{Message}
use Rattle.mail.specs.Message.{status_names_next}
use Rattle.mail.specs.Phase.{Phase, has_taken}
use Rattle.open_calls.specs.OpenCalls.{NodeCall, open_call}
use Rattle.letter.specs.declared.letter.Letter.{Letter}
use Rattle.local_object.specs.declared.progress.Ended.{Ended}
use Rattle.local_object.specs.Coding.{is_sendable}
use Rattle.local_object.specs.Doing.{IsOutcome}
use Rattle.local_object.specs.Ended.{all_told}
use Rattle.local_object.specs.Events.{LocalEvent, all_done}
use Rattle.local_object.specs.Going.{IsFetchedValue, next_here, next_if}
use Rattle.local_object.specs.Leaving.{final_position, is_at}
use Rattle.local_object.specs.Local.{LocalObject, Place, heard_place, layout_here, layout_in}
use Rattle.local_object.specs.May.{IsCarriedOut}
use Rattle.local_object.specs.Starting.{first_number}

-- a call as the machine that carries it out
abbrev pub machine_of : NodeCall → Machine
machine_of call = record {
  id = call.id;
  kind = call.kind;
  settled = call.settled;
  stage = call.stage;
  phase = call.phase;
}

-- whether a phase of this kind does not say that there is a next position, or the node has heard of that position
abbrev pub knows_next : List Place → Kind → (position : ℕ) → Bool
knows_next places (Spread status) position =
    not (status_names_next status) || is_some (layout_in (heard_place places (suc position)))
knows_next places _ position = true

-- whether a call can begin a phase of this kind at this position: the node has heard of the position, and of the next
-- one if the phase says that there is one; there is a number for the phase, and the value can be encoded if its pieces
-- are sent
abbrev pub can_begin : List Place → Machine → Kind → (position : ℕ) → Bool
can_begin places call kind position =
    is_some (layout_in (heard_place places position))
    && (nat_lt (call.phase.number + 1) (2 ^ 32) && (is_sendable kind call && knows_next places kind position))

-- a call begins a phase, if it can
abbrev pub begin_events : List Place → Machine → Kind → (position : ℕ) → List LocalEvent
begin_events places call kind position =
    if can_begin places call kind position then LocalEvent.Advance call.id ∷ [] else []

-- whether a message repeats a reply that a phase has recorded: it belongs to the phase, and is of the same member
abbrev pub is_repeat_in : Phase → Message → Bool
is_repeat_in phase message = (message.phase == phase.number) && has_taken phase.replies message.member

-- whether there is a call, and a message repeats a reply that its current phase has recorded
abbrev pub is_repeated : Option NodeCall → Message → Bool
is_repeated None message = false
is_repeated (Some call) message = is_repeat_in call.phase message

-- whether a letter repeats a reply that the current phase of its call has recorded
abbrev pub repeats : LocalObject → Letter → Bool
repeats local letter = is_repeated (open_call local.calls letter.message.call) letter.message

-- whether a call can begin anew at the node's start: it is no move, the node has heard of the layout there, and there
-- is a number for the phase
abbrev pub can_begin_anew : LocalObject → Machine → Bool
can_begin_anew local call =
    not (is_move call.kind) && (is_some (layout_here local local.start)
    && nat_lt (call.phase.number + first_number local.start) (2 ^ 32))

-- whether a first reading of the sequence of layouts is to begin at this stage
abbrev pub is_read_begin : Stage → Bool
is_read_begin ReadBegin = true
is_read_begin _ = false

-- the events by which a call reads the sequence of layouts anew from the node's start on, if it can
abbrev pub begin_anew_events : LocalObject → Machine → List LocalEvent
begin_anew_events local call = if can_begin_anew local call then LocalEvent.BeginAnew call.id ∷ [] else []

-- a call whose fetch lacks pieces begins anew, if it can: one that is to read the sequence of layouts does so from the
-- node's start on, and any other call begins a phase of this kind at this position
abbrev pub restart_events : LocalObject → Machine → Kind → (position : ℕ) → List LocalEvent
restart_events local call kind position =
    if is_read_begin (reached call) then begin_anew_events local call
    else begin_events local.places call kind position

-- the events by which a call goes on that does this next
abbrev pub step_events : LocalObject → Machine → Next → List LocalEvent
step_events local call next.Wait = []
step_events local call next.Settle = []
step_events local call (next.Restart kind position) = restart_events local call kind position
step_events local call (next.Begin kind position) = begin_events local.places call kind position
step_events local call next.Answer = LocalEvent.Answer call.id ∷ []

-- the events by which a call goes on, if there is one; it begins anew only if `again` is true
abbrev pub call_events : (again : Bool) → LocalObject → Option NodeCall → List LocalEvent
call_events again local None = []
call_events again local (Some call) = step_events local (machine_of call) (next_if again (machine_of call))

-- the events by which the call with this id goes on; it begins anew only if `again` is true
abbrev pub lead_events : (again : Bool) → LocalObject → (id : ℕ) → List LocalEvent
lead_events again local id = call_events again local (open_call local.calls id)

-- whether the object's start grows by a call: the call has raised the pointer of the start to final at a quorum, the
-- node has heard of the next position, and numbers of phases are left for calls that begin there
abbrev pub grows_by : LocalObject → Option NodeCall → Bool
grows_by local None = false
grows_by local (Some call) =
    is_at (final_position (Some call)) local.start && (is_some call.phase.end
    && (is_some (layout_here local (suc local.start)) && nat_lt (local.start + 1) (2 ^ 31)))

-- the events by which the start grows by the call with this id
abbrev pub grow_events : LocalObject → (id : ℕ) → List LocalEvent
grow_events local id = if grows_by local (open_call local.calls id) then LocalEvent.Grow id ∷ [] else []

-- the events by which the start grows by the call with this id, and the call then goes on
abbrev pub going_events : (again : Bool) → LocalObject → (id : ℕ) → List LocalEvent
going_events again local id =
    grow_events local id ++ lead_events again (all_done fragment local (grow_events local id)).local id

-- the call with this id is to settle what it fetched, and its pieces decode to this value
pub record CanSettle (local : LocalObject) (id : ℕ) (value : List ℕ) : Type 0 where
  pub call : NodeCall
  pub carried : IsCarriedOut local id call
  pub next : next_here (machine_of call) ≡ next.Settle
  pub fetched : IsFetchedValue local.places (machine_of call) value

-- by these events the call with this id settles what it fetched: by none exactly if it can settle nothing
abbrev pub AreSettling : LocalObject → (id : ℕ) → List LocalEvent → Type 0
AreSettling local id events =
    ((events ≡ []) × ((value : List ℕ) → CanSettle local id value → ⊥))
    ⊎ ((value : List ℕ) × CanSettle local id value × (events ≡ LocalEvent.Settle id value ∷ []))

-- these events may happen, after which the node keeps this, has sent these letters, and has answered these calls
pub record IsOutcomeWithAnswers (old : LocalObject) (events : List LocalEvent) (new : LocalObject)
    (letters : List Letter) (ended : List Ended) : Type 0 where
  pub done : IsOutcome old events new letters
  pub told : ended ≡ all_told fragment old events

-- the call with this id settled what it fetched, if it could
pub record SettlesFetched (old : LocalObject) (id : ℕ) (new : LocalObject) : Type 0 where
  pub events : List LocalEvent
  pub settles : AreSettling old id events
  pub done : IsOutcomeWithAnswers old events new [] []
