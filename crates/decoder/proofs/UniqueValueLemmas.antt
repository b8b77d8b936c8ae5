-- Values that have the same fragments at k points.
use Rattle.std.proofs.Common.{◌≡◌, ℕ, ◌≤◌, List, [], ◌∷◌, length, map, get_or, All, refl, sym, ap, subst, ◌∙◌}
use Rattle.std.proofs.lemmas.List.{length-map}
use Rattle.std.proofs.lemmas.List.Elements.{All-map}
use Rattle.tag.specs.declared.limits.TheConstants.{LONGEST_VALUE, MOST_MEMBERS}
use Rattle.gf256.specs.Polynomial.{AreBytes, AreDistinct}
use Rattle.encoder.specs.Fragment.{fragment, piece_at_point}
use Rattle.piece.specs.declared.piece.Piece.{Piece}
use Rattle.encoder.proofs.ColumnLemmas.{AreBytes-fragment}
use Rattle.decoder.specs.Pieces.{points_of, AreLawful, AreOfBytes, ArePiecesOf, IsInterpolated}
use Rattle.decoder.proofs.ValuePrefixLemmas.{value-blocks_of, AreLawful-pieces_of, IsInterpolated-pieces_of}

-- the pieces of a value at these points
abbrev pub pieces_at : List ℕ → ℕ → List ℕ → List Piece
pieces_at value k points = map (λ x. piece_at_point value k x) points

points-pieces_at : (value : List ℕ) (k : ℕ) (points : List ℕ) → points_of (pieces_at value k points) ≡ points
points-pieces_at value k [] = refl
points-pieces_at value k (x ∷ xs) = ap (λ ys. x ∷ ys) (points-pieces_at value k xs)

module _ (k : ℕ) (points v w : List ℕ) (some : 1 ≤ k) (most : k ≤ MOST_MEMBERS) (count : length points ≡ k) (distinct : AreDistinct points)
    (bytes : AreBytes points)
    (first : AreBytes v) (second : AreBytes w) (longest : length v ≤ LONGEST_VALUE) (lens : length v ≡ length w)
    (same : All (λ x. fragment v k x ≡ fragment w k x) points) where
  abbrev pieces : List Piece
  pieces = pieces_at v k points

  known : ArePiecesOf v k pieces
  known = record {
    some = some;
    most = most;
    longest = longest;
    bytes = first;
    count = length-map points (λ x. piece_at_point v k x) ∙ count;
    distinct = subst AreDistinct (sym (points-pieces_at v k points)) distinct;
    pieces_of = All-map (λ p. p ≡ piece_at_point v k p.point) (λ x. piece_at_point v k x) points (λ i d hi. refl);
  }

  of_bytes : AreOfBytes pieces
  of_bytes = record {
    points = subst AreBytes (sym (points-pieces_at v k points)) bytes;
    fragments = All-map (λ p. AreBytes p.bytes) (λ x. piece_at_point v k x) points
        (λ i d hi. AreBytes-fragment v k (get_or points i d) first (bytes i d hi));
  }

  lawful : AreLawful k (length v) pieces
  lawful = AreLawful-pieces_of v k (length v) pieces refl known

  of_second : IsInterpolated k (length v) pieces w
  of_second = record {
    bytes = second;
    value_len = sym lens;
    fragments = All-map (λ p. fragment w k p.point ≡ p.bytes) (λ x. piece_at_point v k x) points (λ i d hi. sym (same i d hi));
  }

  pub determined : v ≡ w
  determined =
      value-blocks_of k (length v) pieces lawful of_bytes v (IsInterpolated-pieces_of v k (length v) pieces refl known)
      ∙ sym (value-blocks_of k (length v) pieces lawful of_bytes w of_second)
