-- The contracts that docs/trusted.md lists do not depend on this file; other contracts and proofs do.
-- Pieces that are given as their points and their fragments, side by side.
use Rattle.std.specs.Prelude.{◌≡◌, ℕ, List, [], length, map, slice_index, slice_index_or}
use Rattle.std.specs.List.{range_with_len}
use Rattle.piece.specs.declared.piece.Piece.{Piece}
use Rattle.decoder.specs.Pieces.{AreLawful}

-- piece i of a value of len bytes has point i and fragment i
unfoldable pub piece_at : ℕ → List ℕ → List (List ℕ) → ℕ → Piece
piece_at len points fragments i =
    record { point = slice_index points i; len = len; bytes = slice_index_or fragments i [] }

-- a piece for each point
unfoldable pub pieces_at : ℕ → List ℕ → List (List ℕ) → List Piece
pieces_at len points fragments = map (piece_at len points fragments) (range_with_len 0 (length points))

-- there are as many fragments as points, and they are lawful pieces
pub record AreLawfulParts (k len : ℕ) (points : List ℕ) (fragments : List (List ℕ)) : Type 0 where
  pub as_many : length fragments ≡ length points
  pub lawful : AreLawful k len (pieces_at len points fragments)
