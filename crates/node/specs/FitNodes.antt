-- The contracts that docs/trusted.md lists do not depend on this file; other contracts and proofs do.
-- Nodes that can write all that they have to, but for plain answers, and frames that hosts can bring them.
use Rattle.std.specs.Prelude.{IfSome, Option}
use Rattle.std.specs.List.{AllByRecursion}
use Rattle.fitting.specs.Reading.{IsOfBytes}
use Rattle.frames.specs.Frame.{IsFrame}
use Rattle.node.specs.FitDesks.{IsFitDesk}
use Rattle.node.specs.declared.node.Node.{Node}
use Rattle.node_effects.specs.declared.work.Work.{Work}
use Rattle.node_strings.specs.Arrival.{arrival_strings}
use Rattle.node_strings.specs.Strings.{Strings}
use Rattle.node_strings.specs.declared.arrival.Arrival.{Arrival}
use Rattle.writable.specs.Keepers.{HasFitOwn, IsFitKeeper}

-- what a node keeps is fit, and the names at its desk are short
pub record IsFitNode (node : Node) : Type 0 where
  pub keeper : IsFitKeeper node.keeper
  pub desk : IsFitDesk node.desk

-- the strings are those of a frame, and each is a string of bytes
pub record IsByteFrame (strings : Strings) : Type 0 where
  pub frame : IsFrame strings
  pub bytes : AllByRecursion IsOfBytes strings

-- what has come, if anything has, came in a frame of bytes
abbrev pub CameInBytes : Option Arrival → Type 0
CameInBytes came = IfSome came (λ arrival. IsByteFrame (arrival_strings arrival))

-- the node is fit, and so are its letters to itself that wait in its work
pub record IsFitAtWork (node : Node) (work : Work) : Type 0 where
  pub fit : IsFitNode node
  pub own : HasFitOwn work

-- if the node and its letters to itself that waited were fit, so are the node and those that wait now
abbrev pub StaysFit : (old : Node) → (before : Work) → (new : Node) → (after : Work) → Type 0
StaysFit old before new after = IsFitAtWork old before → IsFitAtWork new after
