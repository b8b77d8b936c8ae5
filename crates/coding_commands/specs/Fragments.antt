-- The contracts that docs/trusted.md lists do not depend on this file; other contracts and proofs do.
-- The line of the fragments of a value.
use Rattle.std.specs.Prelude.{ℕ, List, ◌∷◌, ◌++◌, map}
use Rattle.std.specs.Fmt.{decimal}
use Rattle.std.specs.List.{join_with_byte, range_with_len}
use Rattle.piece.specs.declared.piece.Piece.{Piece}
use Rattle.encoder.specs.Fragment.{piece_at_point}
use Rattle.encoder.specs.Coded.{Coding}
use Rattle.words.specs.Hexadecimal.{hexadecimal_text}

-- the point of a piece, a colon, and its bytes
abbrev pub piece_text : Piece → List ℕ
piece_text piece = decimal piece.point ++ 58 ∷ hexadecimal_text piece.bytes

-- the fragments of a value: the pieces at the points from 0 to n - 1
abbrev pub fragments_of_value : Coding → List Piece
fragments_of_value c = map (piece_at_point c.value c.k) (range_with_len 0 c.n)

-- the line: the fragments, separated by spaces
abbrev pub fragments_text : Coding → List ℕ
fragments_text c = join_with_byte 32 (map piece_text (fragments_of_value c))
