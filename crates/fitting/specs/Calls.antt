-- The contracts that docs/trusted.md lists do not depend on this file; other contracts and proofs do.
-- Open calls whose letters can be written, and by which the letters of their next phases can be.
use Rattle.std.specs.Prelude.{◌≡◌, ◌<◌, ◌≤◌, ◌^◌, ℕ, true, length, List, IfSome}
use Rattle.std.specs.List.{AllByRecursion}
use Rattle.local_object.specs.Local.{Place}
use Rattle.local_object.specs.Taking.{knows_next}
use Rattle.mail.specs.declared.phase.Taken.{Taken}
use Rattle.node_messages.specs.Message.{IsAnswer, IsKind, IsTag}
use Rattle.open_calls.specs.OpenCalls.{NodeCall}
use Rattle.record.specs.declared.call.CallKind.{CallKind}
use Rattle.record.specs.declared.call.CallKind.TheVariants as calls
use Rattle.record.specs.declared.stage.Stage.{Stage}
use Rattle.record.specs.declared.stage.Stage.TheVariants as stage
use Rattle.tag.specs.declared.limits.TheConstants.{LONGEST_VALUE}

-- the numbers of the tag of a stage, if it has one, are within their bits
abbrev pub IsFitStage : Stage → Type 0
IsFitStage (stage.QueryFrom position last greatest shown_at) = IsTag greatest
IsFitStage (stage.FetchAt shown_at last tag) = IsTag tag
IsFitStage (stage.PreWriteAt last tag) = IsTag tag
IsFitStage (stage.FinalizeAt last tag) = IsTag tag
IsFitStage (stage.AgainNext last position tag) = IsTag tag
IsFitStage (stage.AgainSpread last position tag status) = IsTag tag
IsFitStage (stage.MoveFetch position tag) = IsTag tag
IsFitStage (stage.MovePreWrite position tag) = IsTag tag
IsFitStage (stage.MoveFinalize position tag) = IsTag tag
IsFitStage (stage.MoveFinal position tag) = IsTag tag
IsFitStage (stage.Ended last tag) = IsTag tag
IsFitStage (stage.Moved position tag) = IsTag tag
IsFitStage stage.ReadBegin = Unit {0}
IsFitStage (stage.ReadNext position finalized) = Unit {0}
IsFitStage (stage.ReadSpread position finalized status) = Unit {0}
IsFitStage (stage.MoveSpread position) = Unit {0}
IsFitStage (stage.MoveQuery position) = Unit {0}

-- the numbers in a reply that was taken are within their bits
abbrev pub IsFitTaken : Taken → Type 0
IsFitTaken taken = IsAnswer taken.reply.answer

-- a value is not too long for clients
abbrev pub IsShortValue : List ℕ → Type 0
IsShortValue value = length value ≤ LONGEST_VALUE

-- the value that a call writes, if it writes one, is not too long
abbrev pub WritesShort : CallKind → Type 0
WritesShort calls.Read = Unit {0}
WritesShort (calls.Write value) = IsShortValue value
WritesShort calls.Move = Unit {0}

-- an open call of a node that has heard of these places: its numbers and those of its phase are within their bits, its
-- values are not too long, and the node has heard of the position after that of its phase if the phase says that there
-- is one
pub record IsFitCall (places : List Place) (call : NodeCall) : Type 0 where
  pub id : call.id < 2 ^ 64
  pub written : WritesShort call.kind
  pub settled : IfSome call.settled IsShortValue
  pub stage : IsFitStage call.stage
  pub number : call.phase.number < 2 ^ 32
  pub kind : IsKind call.phase.kind
  pub next : knows_next places call.phase.kind call.phase.position ≡ true
  pub replies : AllByRecursion IsFitTaken call.phase.replies
