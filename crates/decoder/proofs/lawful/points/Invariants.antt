use Rattle.std.proofs.Common.{◌≡◌, take}
use Rattle.gf256.specs.Polynomial.{AreBytes}
use Rattle.decoder.specs.Pieces.{points_of}
use Rattle.decoder.proofs.lawful.points.Given as goal

abbrev pub invariant-loop-piece : goal.invariant-loop-piece
invariant-loop-piece l =
    record {
      points : l.points.items ≡ take l.piece-index (points_of l.pieces);
      bytes : AreBytes l.points.items;
    }
