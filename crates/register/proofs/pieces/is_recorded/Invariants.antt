use Rattle.std.proofs.Common.{◌≡◌, drop}
use Rattle.register.specs.Coding.{is_recorded}
use Rattle.register.proofs.pieces.is_recorded.Given as goal

abbrev pub invariant-loop-taken : goal.invariant-loop-taken
invariant-loop-taken l = is_recorded l.fn.replies l.fn.piece ≡ is_recorded (drop l.taken-index l.fn.replies) l.fn.piece
