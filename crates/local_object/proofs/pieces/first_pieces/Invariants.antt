use Rattle.std.proofs.Common.{◌≡◌, take}
use Rattle.local_object.specs.Pieces.{first_pieces}
use Rattle.local_object.proofs.pieces.first_pieces.Given as goal

abbrev pub invariant-loop-taken : goal.invariant-loop-taken
invariant-loop-taken l = l.pieces.items ≡ first_pieces l.k (take l.taken-index l.replies)
