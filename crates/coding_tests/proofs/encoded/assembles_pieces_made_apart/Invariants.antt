use Rattle.std.proofs.Common.{◌≡◌, length}
use Rattle.encoder.specs.Coded.{ArePieces}
use Rattle.coding_tests.proofs.encoded.assembles_pieces_made_apart.Given as goal

-- the pieces so far
abbrev pub invariant-loop-i : goal.invariant-loop-i
invariant-loop-i g l =
    record {
      count : length l.pieces.items ≡ l.i;
      pieces : ArePieces l.value 2 l.pieces.items;
    }
