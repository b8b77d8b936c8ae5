-- The contracts that docs/trusted.md lists do not depend on this file; other contracts and proofs do.
-- Why functions of a node fail.
use Rattle.std.specs.Prelude.{◌≡◌, ◌⊎◌, ⊤, Option, None, Some, Result, MatchResult}
use Rattle.frames.specs.declared.error.FrameError.{FrameError}
use Rattle.frames.specs.declared.error.FrameError.TheVariants as frame_errors
use Rattle.node_messages.specs.declared.error.MessageError.{MessageError}
use Rattle.node_messages.specs.declared.error.MessageError.TheVariants as message_errors
use Rattle.tag.specs.declared.refusal.Refusal.{Refusal}
use Rattle.tag.specs.declared.refusal.Refusal.TheVariants as refusals
use Rattle.node_effects.specs.declared.error.NodeError.{NodeError}
use Rattle.node_effects.specs.declared.error.NodeError.TheVariants as errors

-- why a function that has to write something failed: memory was refused, or what it had to write does not fit
abbrev pub IsUnwritten : (fits : Type 0) → NodeError → Type 0
IsUnwritten fits errors.NoMemory = ⊤
IsUnwritten fits errors.NoMoreIds = ⊥
IsUnwritten fits errors.Unwritable = fits → ⊥
IsUnwritten fits (errors.Refused refusal) = ⊥

-- a function succeeded, and what it wrote fits; or it failed because that does not fit, or for want of memory
abbrev pub WritesOrFails : {T : Type 0} → (fits : Type 0) → Result T NodeError → Type 0
WritesOrFails fits result = MatchResult result (λ _. fits) (IsUnwritten fits)

-- the node's error for a failure to make or write a frame or an entry
abbrev pub error_of_frame : FrameError → NodeError
error_of_frame frame_errors.NoMemory = errors.NoMemory
error_of_frame (frame_errors.Fault fault) = errors.Unwritable
error_of_frame (frame_errors.Failed error) = errors.Unwritable

-- the node's error for a failure to write a message
abbrev pub error_of_message : MessageError → NodeError
error_of_message message_errors.NoMemory = errors.NoMemory
error_of_message (message_errors.Fault fault) = errors.Unwritable

-- the node's error for a refusal by an object
abbrev pub error_of_refusal : Refusal → NodeError
error_of_refusal refusals.NoMemory = errors.NoMemory
error_of_refusal refusal = errors.Refused refusal

-- a function succeeds only if there is no cause of refusal; it fails with the cause's refusal, or for want of memory
abbrev pub IsByRefusal : {T : Type 0} → Option Refusal → Result T NodeError → Type 0
IsByRefusal cause result = MatchResult result (λ _. cause ≡ None)
    (λ e. (e ≡ errors.NoMemory) ⊎ ((refusal : Refusal) × (cause ≡ Some refusal) × (e ≡ errors.Refused refusal)))
