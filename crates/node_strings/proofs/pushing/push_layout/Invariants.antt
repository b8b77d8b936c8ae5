-- The string has k and the members so far.
use Rattle.std.proofs.Common.{◌≡◌, ◌∷◌, take}
use Rattle.node_strings.proofs.pushing.push_layout.Given as goal

abbrev pub invariant-loop-i : goal.invariant-loop-i
invariant-loop-i l = l.bytes.items ≡ l.layout.k ∷ take l.i l.layout.members
