-- The contracts that docs/trusted.md lists do not depend on this file; other contracts and proofs do.
-- The laws: with what a fit node fails because something does not fit.
use Rattle.std.specs.Prelude.{◌⊎◌, ℕ, List}
use Rattle.letter.specs.declared.letter.NamedLetter.{NamedLetter}
use Rattle.node.specs.Failures.{FailsArrival, FailsStep, FailsWith}
use Rattle.node.specs.Frames.{letters_in, sender_or}
use Rattle.node.specs.Handles.{HasActed}
use Rattle.node.specs.Serving.{ServedSince}
use Rattle.node.specs.declared.node.Node.{Node}
use Rattle.node_effects.specs.declared.error.NodeError.TheVariants as errors
use Rattle.node_effects.specs.declared.work.Work.{Work}
use Rattle.node_strings.specs.Arrival.{arrival_at}
use Rattle.node_strings.specs.Strings.{Strings}
use Rattle.std.specs.List.{AllByRecursion}
use Rattle.writable.specs.Keepers.{IsFitNamed}
use Rattle.node.specs.FitNodes.{IsByteFrame, IsFitNode}
use Rattle.writable_nodes.specs.Nodes.{HasLongAnswer}

-- with what has come a fit node fails so only at a plain answer
abbrev pub FitNodesCanDoWhatComes : Type 0
FitNodesCanDoWhatComes = (node : Node) (frame : Strings) → IsFitNode node → IsByteFrame frame →
    FailsArrival (arrival_at frame) node errors.Unwritable → HasLongAnswer node

-- with its next letter to itself, or the next command of a client, a fit node fails so only at a plain answer
abbrev pub FitNodesCanGoOn : Type 0
FitNodesCanGoOn = (node : Node) (own : List NamedLetter) (due : List ℕ) → IsFitNode node →
    AllByRecursion IsFitNamed own → FailsStep node own due errors.Unwritable → HasLongAnswer node

-- the node did deeds and services since it was `first`, and has a plain answer that is too long
pub record IsStoppedBehind (first : Node) (frame : Strings) : Type 0 where
  pub middle : Node
  pub work : Work
  pub acted : HasActed (sender_or first.keeper.ids.node (arrival_at frame)) (letters_in first.keeper frame)
      first.keeper middle.keeper work
  pub served : ServedSince (arrival_at frame) first middle work.to_clients.items work.notices.items
      work.outputs.items
  pub long : HasLongAnswer middle

-- at a frame of bytes a fit node fails so only at a plain answer, with what has come or later
abbrev pub FitNodesStopAtAnswers : Type 0
FitNodesStopAtAnswers = (node : Node) (frame : Strings) → IsFitNode node → IsByteFrame frame →
    FailsWith node frame errors.Unwritable → HasLongAnswer node ⊎ IsStoppedBehind node frame
