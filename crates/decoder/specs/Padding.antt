-- The contracts that docs/trusted.md lists do not depend on this file; other contracts and proofs do.
-- Pieces whose whole blocks have a byte past the value's end that is not 0.
use Rattle.std.specs.Prelude.{◌≡◌, ◌≢◌, ℕ, ◌*◌, ◌≤◌, ◌<◌, List, length, slice_index}
use Rattle.encoder.specs.Fragment.{fragment_len}
use Rattle.piece.specs.declared.piece.Piece.{Piece}
use Rattle.decoder.specs.Pieces.{IsInterpolated}

-- these are the k whole blocks whose fragments are the pieces, and no other blocks have these fragments
pub record AreBlocks (k len : ℕ) (pieces : List Piece) (blocks : List ℕ) : Type 0 where
  pub interpolated : IsInterpolated k (k * fragment_len k len) pieces blocks
  pub only : (other : List ℕ) → IsInterpolated k (k * fragment_len k len) pieces other → other ≡ blocks

-- a byte of these blocks past the value's len bytes is not 0
pub record HasBytePast (len : ℕ) (blocks : List ℕ) : Type 0 where
  pub place : ℕ
  pub past : len ≤ place
  pub within : place < length blocks
  pub nonzero : slice_index blocks place ≢ 0
