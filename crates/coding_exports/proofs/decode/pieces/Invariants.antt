use Rattle.std.proofs.Common.{◌≡◌, ◌++◌, drop}
use Rattle.coding_exports.specs.Pieces.{pieces_from}
use Rattle.coding_exports.proofs.decode.pieces.Given as goal

abbrev pub invariant-loop-point : goal.invariant-loop-point
invariant-loop-point l =
    l.pieces.items ++ pieces_from l.len l.fragment_len (drop l.point-index l.points) l.rest
    ≡ pieces_from l.len l.fragment_len l.points l.fragments
