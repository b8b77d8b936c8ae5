use Rattle.std.proofs.Common.{◌≡◌, length}
use Rattle.encoder.specs.Coded.{ArePieces}
use Rattle.encoder.proofs.coded.pieces.Given as goal

-- the pieces so far
abbrev pub invariant-loop-i : goal.invariant-loop-i
invariant-loop-i l =
    record {
      count : length l.pieces.items ≡ l.i;
      pieces : ArePieces l.value l.k l.pieces.items;
    }
