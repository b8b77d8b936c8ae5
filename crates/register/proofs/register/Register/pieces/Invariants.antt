use Rattle.std.proofs.Common.{◌≡◌, take, length, vec_len}
use Rattle.register.specs.Coding.{pieces_below}
use Rattle.register.proofs.register.Register.pieces.Given as goal

abbrev pub invariant-loop-member : goal.invariant-loop-member
invariant-loop-member l =
    (l.pieces.items ≡ take l.k (pieces_below l.phase.replies l.member)) × (vec_len l.pieces ≡ length l.pieces.items)
