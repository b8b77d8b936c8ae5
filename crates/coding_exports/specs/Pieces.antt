-- The contracts that docs/trusted.md lists do not depend on this file; other contracts and proofs do.
-- The pieces that are made from fragments which stand one after another.
use Rattle.std.specs.Prelude.{ℕ, List, [], ◌∷◌, take, drop}
use Rattle.encoder.specs.Fragment.{fragment_len}
use Rattle.piece.specs.declared.piece.Piece.{Piece}

-- the pieces at these points of a value of len bytes, where each fragment has fragment_len bytes
unfoldable pub pieces_from : ℕ → ℕ → List ℕ → List ℕ → List Piece
pieces_from len fragment_len [] fragments = []
pieces_from len fragment_len (point ∷ points) fragments =
    record { point = point; len = len; bytes = take fragment_len fragments }
    ∷ pieces_from len fragment_len points (drop fragment_len fragments)

-- the pieces at these points of a value of len bytes that is cut into k blocks
abbrev pub pieces_given : ℕ → ℕ → List ℕ → List ℕ → List Piece
pieces_given k len points fragments = pieces_from len (fragment_len k len) points fragments
