-- The lines of the nodes so far were appended.
use Rattle.std.proofs.Common.{◌≡◌, ◌++◌, take}
use Rattle.node.specs.Info.{silence_lines}
use Rattle.node.proofs.node.peer_lines.push_silences.Given as goal

abbrev pub invariant-loop-i : goal.invariant-loop-i
invariant-loop-i l = l.text.items ≡ l.fn.text.items ++ silence_lines l.number l.peers.silences (take l.i l.nodes)
