use Rattle.std.proofs.Common.{◌≡◌, drop}
use Rattle.std.specs.List.{list_all}
use Rattle.register.specs.Coding.{is_recorded}
use Rattle.register.proofs.pieces.are_recorded.Given as goal

abbrev pub invariant-loop-piece : goal.invariant-loop-piece
invariant-loop-piece l =
    list_all (is_recorded l.fn.replies) l.fn.pieces ≡ list_all (is_recorded l.fn.replies) (drop l.piece-index l.fn.pieces)
