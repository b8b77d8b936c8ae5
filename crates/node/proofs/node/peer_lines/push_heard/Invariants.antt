-- The lines of the nodes so far were appended.
use Rattle.std.proofs.Common.{◌≡◌, ◌++◌, take}
use Rattle.node.specs.Info.{heard_lines}
use Rattle.node.proofs.node.peer_lines.push_heard.Given as goal

abbrev pub invariant-loop-i : goal.invariant-loop-i
invariant-loop-i l = l.text.items ≡ l.fn.text.items ++ heard_lines l.number l.peers.heard (take l.i l.nodes)
