-- Pieces that are to be decoded, and the value that they stand for.
use Rattle.std.specs.Prelude.{◌≡◌, ℕ, ◌≤◌, List, length, map, All}
use Rattle.tag.specs.declared.limits.TheConstants.{MOST_MEMBERS, LONGEST_VALUE}
use Rattle.gf256.specs.Polynomial.{AreBytes, AreDistinct}
use Rattle.encoder.specs.Fragment.{fragment, fragment_len, piece_at_point}
use Rattle.piece.specs.declared.piece.Piece.{Piece}

-- the point of each piece
abbrev pub points_of : List Piece → List ℕ
points_of pieces = map (λ p. p.point) pieces

-- the pieces have the shape of k pieces of a value of len bytes, within the limits: their points are distinct, and each
-- names this length and has as many bytes as a fragment
pub record AreLawful (k len : ℕ) (pieces : List Piece) : Type 0 where
  pub some : 1 ≤ k
  pub most : k ≤ MOST_MEMBERS
  pub longest : len ≤ LONGEST_VALUE
  pub count : length pieces ≡ k
  pub distinct : AreDistinct (points_of pieces)
  pub lens : All (λ p. p.len ≡ len) pieces
  pub fragment_lens : All (λ p. length p.bytes ≡ fragment_len k len) pieces

-- the points and the fragments are of bytes, as the type of a piece says
pub record AreOfBytes (pieces : List Piece) : Type 0 where
  pub points : AreBytes (points_of pieces)
  pub fragments : All (λ p. AreBytes p.bytes) pieces

-- the value has len bytes, and its fragment at each piece's point is that piece
pub record IsInterpolated (k len : ℕ) (pieces : List Piece) (value : List ℕ) : Type 0 where
  pub bytes : AreBytes value
  pub value_len : length value ≡ len
  pub fragments : All (λ p. fragment value k p.point ≡ p.bytes) pieces

-- no value of len bytes has these fragments
abbrev pub HaveNoValue : ℕ → ℕ → List Piece → Type 0
HaveNoValue k len pieces = (value : List ℕ) → ¬ IsInterpolated k len pieces value

-- a value of len bytes has these fragments
pub record HaveValue (k len : ℕ) (pieces : List Piece) : Type 0 where
  pub value : List ℕ
  pub interpolated : IsInterpolated k len pieces value

-- the pieces are k pieces of the value, at distinct points
pub record ArePiecesOf (value : List ℕ) (k : ℕ) (pieces : List Piece) : Type 0 where
  pub some : 1 ≤ k
  pub most : k ≤ MOST_MEMBERS
  pub longest : length value ≤ LONGEST_VALUE
  pub bytes : AreBytes value
  pub count : length pieces ≡ k
  pub distinct : AreDistinct (points_of pieces)
  pub pieces_of : All (λ p. p ≡ piece_at_point value k p.point) pieces
