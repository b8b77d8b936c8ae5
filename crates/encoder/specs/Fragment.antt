-- The fragments of a value. It is cut into k blocks of equal length, with zeros past its end, and block j is the
-- coefficient of x^j: so the fragment at the point 0 is block 0, since 0^0 is 1.
use Rattle.std.specs.Prelude.{ℕ, ◌+◌, ◌*◌, List, length, map, slice_index}
use Rattle.std.specs.Int.{div_ceil}
use Rattle.std.specs.List.{range_with_len}
use Rattle.gf256.specs.Field.{field_product, field_power, field_sum}
use Rattle.piece.specs.declared.piece.Piece.{Piece}

-- how many bytes a block has, and a fragment: the length of the value over k, rounded up
abbrev pub fragment_len : ℕ → ℕ → ℕ
fragment_len k len = div_ceil len k

-- byte b of the fragment at the point x: the sum over the blocks j of x^j times byte b of block j, which is byte
-- j * fragment_len + b of the value; past the value's end `slice_index` is 0
unfoldable pub fragment_byte : List ℕ → ℕ → ℕ → ℕ → ℕ
fragment_byte value k x b =
    field_sum k (λ j. field_product (field_power x j) (slice_index value (j * fragment_len k (length value) + b)))

-- the fragment at the point x
unfoldable pub fragment : List ℕ → ℕ → ℕ → List ℕ
fragment value k x = map (fragment_byte value k x) (range_with_len 0 (fragment_len k (length value)))

-- the piece at the point x: the fragment there, with the point and the value's length
abbrev pub piece_at_point : List ℕ → ℕ → ℕ → Piece
piece_at_point value k x = record { point = x; len = length value; bytes = fragment value k x }
