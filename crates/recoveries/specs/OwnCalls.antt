-- The contracts that docs/trusted.md lists do not depend on this file; other contracts and proofs do.
-- The open calls of a node have ids that it gave, and no two of one object the same.
use Rattle.std.specs.Prelude.{◌≡◌, ℕ, List, Some}
use Rattle.std.specs.List.{AllByRecursion}
use Rattle.encoder.specs.Fragment.{fragment}
use Rattle.deeds.specs.CallId.{CallIds, HasRanges, after_given, next_given_id}
use Rattle.open_calls.specs.OpenCalls.{NodeCall, NodeCallsDiffer}
use Rattle.deeds.specs.Deeds.{Notice}
use Rattle.deeds.specs.Handled.{IsHandled}
use Rattle.deeds.specs.Ids.{IsLater}
use Rattle.deeds.specs.Kept.{FileOfNames, KeptNode, new_node}
use Rattle.deeds.specs.Named.{NamedLetter}
use Rattle.deeds.specs.Restarts.{IsRestarted}

-- the id was given at an earlier time
pub record WasGiven (ids : CallIds) (id : ℕ) : Type 0 where
  pub now : CallIds
  pub within : HasRanges now
  pub next : next_given_id now ≡ Some id
  pub later : IsLater (after_given now) ids

-- the ids of these calls were given, and no two are the same
pub record AreOwnCalls (ids : CallIds) (calls : List NodeCall) : Type 0 where
  pub given : AllByRecursion (λ call. WasGiven ids call.id) calls
  pub distinct : NodeCallsDiffer calls

-- the open calls of each object of a node have ids that the node gave, and no two of one object have the same id
pub record HasOwnCalls (node : KeptNode) : Type 0 where
  pub within : HasRanges node.ids
  pub own : (name : List ℕ) → AreOwnCalls node.ids (node.objects name).calls

-- `HasOwnCalls` is true of a new node
abbrev pub NewNodesHaveOwnCalls : Type 0
NewNodesHaveOwnCalls = (file : FileOfNames) (number : ℕ) → HasOwnCalls (new_node file number)

-- `HasOwnCalls` stays true of a node that handles letters, whatever it does with them
abbrev pub HandlingKeepsOwnCalls : Type 0
HandlingKeepsOwnCalls = (old new : KeptNode) (got sent : List NamedLetter) (notices : List Notice) →
    IsHandled fragment old got new sent notices → HasOwnCalls old → HasOwnCalls new

-- `HasOwnCalls` stays true of a node that stops and starts again
abbrev pub RestartingKeepsOwnCalls : Type 0
RestartingKeepsOwnCalls = (before after : KeptNode) → IsRestarted before after → HasOwnCalls before → HasOwnCalls after
