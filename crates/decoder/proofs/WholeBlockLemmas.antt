-- The whole blocks that lawful pieces stand for.
use Rattle.std.proofs.Common.{◌≡◌, ℕ, suc, ◌+◌, ◌*◌, ◌/◌, ◌%◌, ◌<◌, ◌≤◌, List, [], length, get_or, map, min, sym, ap, ap₂}
use Rattle.std.proofs.Common.{subst, ◌∙◌, arith, mod-lt, div-add-mod', div-lt_iff_lt-mul, mul_comm, pos_of_ne-zero}
use Rattle.std.proofs.Common.{mul-le-mul_right, refl}
use Rattle.std.specs.List.{range_with_len}
use Rattle.std.proofs.Math.Nat.{mul-div_cancel_left, mul-mod_right}
use Rattle.std.proofs.lemmas.Nat.{div-mul-add, mod-mul-add}
use Rattle.std.proofs.lemmas.List.{get_or-map, length-map}
use Rattle.std.proofs.lemmas.List.FromFn.{length-map-range_with_len, get_or-map-range_with_len}
use Rattle.std.proofs.lemmas.List.Elements.{All-from_get_or}
use Rattle.std.proofs.lemmas.Grind.{same_number_lists, div_ceil_times}
use Rattle.gf256.specs.Polynomial.{AreBytes, evaluate}
use Rattle.gf256.specs.Field.{field_product, field_sum}
use Rattle.gf256.proofs.BasisRowLemmas.{basis_row}
use Rattle.encoder.specs.Fragment.{fragment_len, fragment, fragment_byte}
use Rattle.piece.specs.declared.piece.Piece.{Piece}
use Rattle.decoder.specs.Pieces.{points_of, AreLawful, AreOfBytes, IsInterpolated}
use Rattle.decoder.proofs.InterpolationLemmas.{partly_interpolated, interpolated_lt, value_interpolated, fragments_from_interpolated}
use Rattle.decoder.proofs.InterpolationLemmas.{fragment_interpolated}

-- ---- lengths

-- whole blocks have the same length
pub fragment_len-whole : (k len : ℕ) → 0 < k → fragment_len k (k * fragment_len k len) ≡ fragment_len k len
fragment_len-whole k len some =
    ap₂ (λ x y. x + min 1 y) (mul-div_cancel_left (fragment_len k len) some) (mul-mod_right k (fragment_len k len)) ∙ omega arith

pub len_le_whole : (k len : ℕ) → 0 < k → len ≤ k * fragment_len k len
len_le_whole k len some = omega (arith, (div_ceil_times len k some).0, mul_comm k (fragment_len k len))

-- fewer than k bytes are past len
pub whole_lt : (k len : ℕ) → 0 < k → k * fragment_len k len < len + k
whole_lt k len some = omega (arith, (div_ceil_times len k some).1, mul_comm k (fragment_len k len))

-- the block of byte n, and its place in it
pub block_lt : (k f n : ℕ) → n < k * f → n / f < k
block_lt k f n hn = (div-lt_iff_lt-mul (pos_of_ne-zero (λ none. absurd (omega (arith, ap (λ g. k * g) none))))).1 hn

pub place_lt : (k f n : ℕ) → n < k * f → n % f < f
place_lt k f n hn = mod-lt n (pos_of_ne-zero (λ none. absurd (omega (arith, ap (λ g. k * g) none))))

-- ---- the bytes of the blocks

-- the fragment of piece i
pub part_of : List Piece → ℕ → List ℕ
part_of pieces i = get_or (map (λ p. p.bytes) pieces) i []

pub part_of-at : (pieces : List Piece) (i : ℕ) (d : Piece) → i < length pieces → part_of pieces i ≡ (get_or pieces i d).bytes
unfolding part_of
part_of-at pieces i d hi = get_or-map (λ q. q.bytes) pieces i d [] hi

point-at : (pieces : List Piece) (i : ℕ) (d : Piece) → i < length pieces → get_or (points_of pieces) i 0 ≡ (get_or pieces i d).point
point-at pieces i d hi = get_or-map (λ q. q.point) pieces i d 0 hi

pub length-points_of : (pieces : List Piece) → length (points_of pieces) ≡ length pieces
length-points_of pieces = length-map pieces (λ q. q.point)

-- any piece, for a place past the end
pub no_piece : Piece
no_piece = record { point = 0; len = 0; bytes = [] }

-- byte n of blocks of f bytes, as far as the pieces below i give it
pub byte_below : List Piece → ℕ → ℕ → ℕ → ℕ
byte_below pieces f i n = partly_interpolated i (points_of pieces) (part_of pieces) (n / f) (n % f)

pub byte_below-sum : (pieces : List Piece) (f i n : ℕ) → byte_below pieces f i n
    ≡ field_sum i (λ m. field_product (get_or (part_of pieces m) (n % f) 0) (get_or (basis_row (points_of pieces) m) (n / f) 0))
unfolding byte_below partly_interpolated
byte_below-sum pieces f i n = refl

-- the blocks that the pieces stand for
pub blocks_of : ℕ → ℕ → List Piece → List ℕ
blocks_of k len pieces = map (byte_below pieces (fragment_len k len) k) (range_with_len 0 (k * fragment_len k len))

pub length-blocks_of : (k len : ℕ) (pieces : List Piece) → length (blocks_of k len pieces) ≡ k * fragment_len k len
unfolding blocks_of
length-blocks_of k len pieces = length-map-range_with_len (byte_below pieces (fragment_len k len) k) 0 (k * fragment_len k len)

pub get_or-blocks_of : (k len : ℕ) (pieces : List Piece) (n : ℕ) → n < k * fragment_len k len
    → get_or (blocks_of k len pieces) n 0 ≡ byte_below pieces (fragment_len k len) k n
unfolding blocks_of
get_or-blocks_of k len pieces n hn =
    get_or-map-range_with_len (byte_below pieces (fragment_len k len) k) 0 (k * fragment_len k len) n n 0 hn (omega arith)

-- lawful pieces
module _ (k len : ℕ) (pieces : List Piece) (lawful : AreLawful k len pieces) (bytes : AreOfBytes pieces) where
  part_bytes : (i : ℕ) → i < k → AreBytes (part_of pieces i)
  part_bytes i hi =
      let within : i < length pieces = omega (arith, lawful.count) in
      subst AreBytes (sym (part_of-at pieces i no_piece within)) (bytes.fragments i no_piece within)

  part_len : (i : ℕ) → i < k → length (part_of pieces i) ≡ fragment_len k len
  part_len i hi =
      let within : i < length pieces = omega (arith, lawful.count) in
      ap length (part_of-at pieces i no_piece within) ∙ lawful.fragment_lens i no_piece within

  count : length (points_of pieces) ≡ k
  count = length-points_of pieces ∙ lawful.count

  AreBytes-blocks_of : AreBytes (blocks_of k len pieces)
  unfolding byte_below
  AreBytes-blocks_of =
      All-from_get_or (λ x. x < 256) (blocks_of k len pieces) 0
      (λ n hn.
      let f = fragment_len k len in
      let inside : n < k * f = omega (arith, length-blocks_of k len pieces) in
      subst (λ x. x < 256) (sym (get_or-blocks_of k len pieces n inside))
      (interpolated_lt k len (points_of pieces) (part_of pieces) count bytes.points lawful.distinct part_bytes part_len
      (n / f) (n % f) (block_lt k f n inside) (place_lt k f n inside)))

  -- they have the pieces as their fragments
  pub IsInterpolated-blocks_of : IsInterpolated k (k * fragment_len k len) pieces (blocks_of k len pieces)
  unfolding byte_below
  IsInterpolated-blocks_of =
      let f = fragment_len k len in
      let whole_len : length (blocks_of k len pieces) ≡ k * f = length-blocks_of k len pieces in
      record {
        bytes = AreBytes-blocks_of;
        value_len = whole_len;
        fragments = λ i d hi.
            ap (fragment (blocks_of k len pieces) k) (sym (point-at pieces i d hi))
            ∙ fragments_from_interpolated k len (points_of pieces) (part_of pieces) count bytes.points lawful.distinct part_bytes part_len
            (blocks_of k len pieces) AreBytes-blocks_of (ap (fragment_len k) whole_len ∙ fragment_len-whole k len lawful.some)
            (λ j b hj hb.
            let n = j * f + b in
            let row : suc j * f ≤ k * f = mul-le-mul_right f hj in
            let inside : n < k * f = omega arith in
            get_or-blocks_of k len pieces n inside
            ∙ ap₂ (λ x y. partly_interpolated k (points_of pieces) (part_of pieces) x y) (div-mul-add j f b hb) (mod-mul-add j f b hb))
            i (omega (arith, lawful.count))
            ∙ part_of-at pieces i d hi;
      }

  fragments_at : (size : ℕ) (value : List ℕ) → IsInterpolated k size pieces value
      → (i : ℕ) → i < k → fragment value k (get_or (points_of pieces) i 0) ≡ part_of pieces i
  fragments_at size value known i hi =
      let within : i < length pieces = omega (arith, lawful.count) in
      ap (fragment value k) (point-at pieces i no_piece within) ∙ known.fragments i no_piece within
      ∙ sym (part_of-at pieces i no_piece within)

  -- each fragment of a value with these fragments
  pub byte_of_fragment : (value : List ℕ) → IsInterpolated k len pieces value → (x b : ℕ) → x < 256 → b < fragment_len k len
      → fragment_byte value k x b
      ≡ field_sum k (λ i. field_product (get_or (part_of pieces i) b 0) (evaluate (basis_row (points_of pieces) i) x))
  byte_of_fragment value known x b hx hb =
      fragment_interpolated k len (points_of pieces) (part_of pieces) count bytes.points lawful.distinct part_bytes part_len
      value known.bytes (ap (fragment_len k) known.value_len) (fragments_at len value known) x b hx hb

  -- a value with these fragments and as many blocks has their bytes
  pub byte_in_blocks : (size : ℕ) (value : List ℕ) → IsInterpolated k size pieces value → fragment_len k size ≡ fragment_len k len
      → (n : ℕ) → n < k * fragment_len k len → get_or value n 0 ≡ get_or (blocks_of k len pieces) n 0
  unfolding byte_below
  byte_in_blocks size value known same_len n hn =
      let f = fragment_len k len in
      let place : n / f * f + n % f ≡ n = div-add-mod' n f in
      ap (λ m. get_or value m 0) (sym place)
      ∙ value_interpolated k len (points_of pieces) (part_of pieces) count bytes.points lawful.distinct part_bytes part_len
      value known.bytes (ap (fragment_len k) known.value_len ∙ same_len) (fragments_at size value known)
      (n / f) (n % f) (block_lt k f n hn) (place_lt k f n hn)
      ∙ sym (get_or-blocks_of k len pieces n hn)

  -- they are the only such blocks
  pub blocks_of-only : (blocks : List ℕ) → IsInterpolated k (k * fragment_len k len) pieces blocks → blocks ≡ blocks_of k len pieces
  blocks_of-only blocks known =
      same_number_lists blocks (blocks_of k len pieces) (known.value_len ∙ sym (length-blocks_of k len pieces))
      (λ n hn. byte_in_blocks (k * fragment_len k len) blocks known (fragment_len-whole k len lawful.some) n
      (omega (arith, known.value_len)))
