use Rattle.std.proofs.Common.{◌≡◌, take}
use Rattle.coding_exports.proofs.decode.decode_again.Given as goal

abbrev pub invariant-loop-piece : goal.invariant-loop-piece
invariant-loop-piece l = l.copies.items ≡ take l.piece-index l.pieces
