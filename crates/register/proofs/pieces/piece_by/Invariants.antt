use Rattle.std.proofs.Common.{◌≡◌, drop}
use Rattle.register.specs.Coding.{piece_by}
use Rattle.register.proofs.pieces.piece_by.Given as goal

abbrev pub invariant-loop-taken : goal.invariant-loop-taken
invariant-loop-taken l = piece_by l.fn.replies l.member ≡ piece_by (drop l.taken-index l.fn.replies) l.member
