-- The numbers of the members so far were appended.
use Rattle.std.proofs.Common.{◌≡◌, ◌++◌, take}
use Rattle.std.specs.List.{flat_map}
use Rattle.node.specs.Shown.{node_word}
use Rattle.node.proofs.node.layouts.push_nodes.Given as goal

abbrev pub invariant-loop-i : goal.invariant-loop-i
invariant-loop-i l = l.line.items ≡ l.fn.line.items ++ flat_map node_word (take l.i l.layout.members)
