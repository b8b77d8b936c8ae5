-- After the first place, no place holds.
use Rattle.std.proofs.Common.{◌≡◌, ◌∷◌, true, false, replicate}
use Rattle.client_commands.proofs.patterns.row_of_none.Given as goal

abbrev pub invariant-loop-byte : goal.invariant-loop-byte
invariant-loop-byte l = l.row.items ≡ true ∷ replicate l._byte-index false
