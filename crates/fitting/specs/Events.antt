-- The contracts that docs/trusted.md lists do not depend on this file; other contracts and proofs do.
-- Which events at an object leave it fit: those whose numbers are within their bits, and whose letters and values fit.
-- What a node does has room if the letters that come to it are fit.
use Rattle.std.specs.Prelude.{◌≡◌, ◌<◌, ◌^◌, ℕ, suc, true, List, [], ◌∷◌, Some, IfSome, IsSome}
use Rattle.bank.specs.declared.kind.Kind.{Kind}
use Rattle.encoder.specs.Fragment.{fragment}
use Rattle.local_object.specs.Coding.{is_sendable}
use Rattle.local_object.specs.Events.{LocalEvent, done_here}
use Rattle.local_object.specs.Local.{LocalObject, last_position, layout_here}
use Rattle.local_object.specs.Starting.{anew_number, number_at}
use Rattle.local_object.specs.Taking.{knows_next, machine_of}
use Rattle.open_calls.specs.OpenCalls.{NodeCall, due_phase, open_call, stage_reached}
use Rattle.fitting.specs.Calls.{IsFitStage, IsShortValue}
use Rattle.fitting.specs.Letters.{IsFitLayout, IsFitLetter}

-- a call can begin the phase that is due, of this kind and at this position: there is a number for the phase, the tag
-- of the stage that the call has reached is within its bits, the value can be encoded if its pieces are sent, and the
-- node has heard of the next position if the phase says that there is one
pub record HasRoomFor (local : LocalObject) (call : NodeCall) (kind : Kind) (position : ℕ) : Type 0 where
  pub number : suc call.phase.number < 2 ^ 32
  pub stage : IsFitStage (stage_reached call)
  pub sendable : is_sendable kind (machine_of call) ≡ true
  pub next : knows_next local.places kind position ≡ true

-- the event has room: its numbers have successors within their bits, its value is not too long, its letter is fit, and
-- if it raises a pointer, the node has heard of the next position
abbrev pub HasRoom : LocalObject → LocalEvent → Type 0
HasRoom local (LocalEvent.BeginRead id) = id < 2 ^ 64
HasRoom local (LocalEvent.BeginWrite id value) = (id < 2 ^ 64) × IsShortValue value
HasRoom local (LocalEvent.BeginMove id layout) =
    (id < 2 ^ 64) × IsFitLayout layout × (suc (last_position local) < 2 ^ 32)
HasRoom local (LocalEvent.Advance id) =
    (call : NodeCall) → open_call local.calls id ≡ Some call → (kind : Kind) (position : ℕ) →
    due_phase call ≡ Some (kind, position) → HasRoomFor local call kind position
HasRoom local (LocalEvent.Serve letter) = IsFitLetter letter × (suc letter.message.position < 2 ^ 32)
HasRoom local (LocalEvent.Take letter) = IsFitLetter letter × (suc letter.message.position < 2 ^ 32)
HasRoom local (LocalEvent.Settle id value) = IsShortValue value
HasRoom local (LocalEvent.Answer id) = Unit {0}
HasRoom local (LocalEvent.GiveUp id) = Unit {0}
HasRoom local (LocalEvent.Close position) = Unit {0}
HasRoom local (LocalEvent.Grow id) = suc local.start < 2 ^ 31
HasRoom local (LocalEvent.Hear letter) = IsFitLetter letter × (suc letter.message.position < 2 ^ 32)
HasRoom local (LocalEvent.Redirect letter) = IsFitLetter letter
HasRoom local (LocalEvent.ReadOn id) =
    (call : NodeCall) → open_call local.calls id ≡ Some call → number_at call local.start < 2 ^ 32
HasRoom local (LocalEvent.BeginAnew id) =
    (call : NodeCall) → open_call local.calls id ≡ Some call → anew_number call local.start < 2 ^ 32
HasRoom local (LocalEvent.Raise position) = IsSome (layout_here local (suc position))
HasRoom local (LocalEvent.EndEarly id value) = IfSome value IsShortValue
HasRoom local (LocalEvent.Query id) =
    (call : NodeCall) → open_call local.calls id ≡ Some call → suc call.phase.number < 2 ^ 32

-- each of these events has room, one after another
abbrev pub HaveRoom : LocalObject → List LocalEvent → Type 0
HaveRoom local [] = Unit {0}
HaveRoom local (event ∷ events) = HasRoom local event × HaveRoom (done_here fragment local event).local events
