-- The contracts that docs/trusted.md lists do not depend on this file; other contracts and proofs do.
-- Plain answers of a node that do not fit.
use Rattle.std.specs.Prelude.{⊤, ℕ}
use Rattle.indexmap.specs.IndexMap.{index_map_len}
use Rattle.client_commands.specs.declared.answer.Answer.{Answer}
use Rattle.client_commands.specs.declared.command.Command.{Command}
use Rattle.client_commands.specs.declared.command.Command.TheVariants as ask
use Rattle.node.specs.AtOnce.{IsPlainHere}
use Rattle.node.specs.Replies.{IsPlainReply}
use Rattle.node.specs.declared.node.Node.{Node}
use Rattle.node_clients.specs.Answers.{CanBeSent}

-- the command begins no call, and is no QUIT
abbrev pub IsPlain : Command → Type 0
IsPlain (ask.Read wanted name) = ⊥
IsPlain (ask.Set name value) = ⊥
IsPlain (ask.Delete deletion) = ⊥
IsPlain (ask.Move name layout) = ⊥
IsPlain ask.Quit = ⊥
IsPlain command = ⊤

-- the node has a plain answer to a command of a client that does not fit into a frame
pub record HasLongAnswer (node : Node) : Type 0 where
  pub client : ℕ
  pub command : Command
  pub plain : IsPlain command
  pub long : ((answer : Answer) → IsPlainReply client command answer →
      IsPlainHere node.keeper node.peers (index_map_len node.desk.calls) node.desk.counts command answer →
      CanBeSent answer) → ⊥
