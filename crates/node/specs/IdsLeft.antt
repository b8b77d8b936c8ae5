-- The contracts that docs/trusted.md lists do not depend on this file; other contracts and proofs do.
-- How many ids a node can still give, and when it fails for want of one.
use Rattle.std.specs.Prelude.{◌≡◌, ◌⊎◌, ◌↔◌, ◌+◌, ◌++◌, ℕ, List, None}
use Rattle.deeds.specs.CallId.{CallIds, HasRanges}
use Rattle.node_strings.specs.Arrival.{arrival_at}
use Rattle.node_strings.specs.Strings.{Strings}
use Rattle.node_effects.specs.declared.effects.Effects.{Effects}
use Rattle.node_effects.specs.declared.error.NodeError.TheVariants as errors
use Rattle.node_effects.specs.declared.notice.Notice.{Notice}
use Rattle.node_effects.specs.declared.output.Output.{Output}
use Rattle.node_keeper.specs.NextIds.{ids_left, next_id_of}
use Rattle.node.specs.Failures.{Fails}
use Rattle.node.specs.GivenIds.{ids_used}
use Rattle.node.specs.Handles.{Handles}
use Rattle.node.specs.Serving.{ServedSince}
use Rattle.node.specs.declared.node.Node.{Node}

-- the node served its clients with a frame up to some state, and then had used up all ids that were left before
pub record HasUsedAllIds (first : Node) (frame : Strings) : Type 0 where
  pub now : Node
  pub frames : List Strings
  pub seen : List Notice
  pub outputs : List Output
  pub served : ServedSince (arrival_at frame) first now frames seen outputs
  pub all : ids_left first.keeper.ids ≡ ids_used (served.coming ++ served.more)

-- The laws

-- there is a next id until none is left
abbrev pub IdsAreLeft : Type 0
IdsAreLeft = (ids : CallIds) → HasRanges ids → (next_id_of ids ≡ None) ↔ (ids_left ids ≡ 0)

-- a node that handles a frame uses one id for each call that begins, and one for each that its object refuses
abbrev pub HandledFramesUseIds : Type 0
HandledFramesUseIds = (old new : Node) (frame : Strings) (effects : Effects) → HasRanges old.keeper.ids →
    (handles : Handles old frame effects new) → HasRanges new.keeper.ids
    × (ids_left old.keeper.ids ≡ ids_used (handles.served.coming ++ handles.served.more) + ids_left new.keeper.ids)

-- a node fails with `NoMoreIds` only where a command needs an id, and none was left before the frame, or what it did
-- with the frame until then used up all that were left
abbrev pub NodesRunOutOfIds : Type 0
NodesRunOutOfIds = (node : Node) (frame : Strings) → HasRanges node.keeper.ids → Fails node frame errors.NoMoreIds →
    (ids_left node.keeper.ids ≡ 0) ⊎ HasUsedAllIds node frame
