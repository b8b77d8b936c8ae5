-- The head has the number of members, k and the members so far.
use Rattle.std.proofs.Common.{◌≡◌, ◌∷◌, ◌++◌, length, take}
use Rattle.node_messages.proofs.head.push_layout.Given as goal

abbrev pub invariant-loop-i : goal.invariant-loop-i
invariant-loop-i l = l.head.items ≡ l.fn.head.items ++ (length l.layout.members ∷ l.layout.k ∷ take l.i l.layout.members)
