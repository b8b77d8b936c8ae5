-- A decoded value.
use Rattle.std.specs.Prelude.{ℕ, List, length}
use Rattle.piece.specs.declared.piece.Piece.{Piece}
use Rattle.decoder.specs.Pieces.{AreLawful, IsInterpolated}

-- k pieces, and the value that they stand for
pub record Decoding : Type 0 where
  pub k : ℕ
  pub pieces : List Piece
  pub value : List ℕ

-- the pieces are lawful, and the value is the one whose fragments they are
pub record IsDecoded (decoding : Decoding) : Type 0 where
  pub lawful : AreLawful decoding.k (length decoding.value) decoding.pieces
  pub interpolated : IsInterpolated decoding.k (length decoding.value) decoding.pieces decoding.value
