-- The sums by the columns of the table of rows, and the value that they are.
use Rattle.std.proofs.Common.{◌≡◌, ℕ, ◌+◌, ◌-◌, ◌*◌, ◌/◌, ◌%◌, ◌^◌, ◌<◌, ◌≤◌, List, [], length, get_or, take, drop, All, sym, ap, ap₂}
use Rattle.std.proofs.Common.{subst, ◌∙◌, arith, get_or-take, get_or-drop, length-take, length-drop, div-add-mod'}
use Rattle.std.proofs.lemmas.List.Elements.{All-from_get_or}
use Rattle.std.proofs.lemmas.Grind.{same_number_lists}
use Rattle.gf256.specs.Field.{field_product, field_sum}
use Rattle.gf256.proofs.FieldLemmas.{product_comm}
use Rattle.gf256.proofs.FieldSumLemmas.{field_sum_same}
use Rattle.gf256.proofs.BasisRowLemmas.{basis_row, IsBasisRow-unique, IsBasisRow-basis_row}
use Rattle.kernels.specs.Dot.{dot_byte, row, term}
use Rattle.encoder.specs.Fragment.{fragment_len}
use Rattle.piece.specs.declared.piece.Piece.{Piece}
use Rattle.decoder.specs.Parts.{piece_at, pieces_at, AreLawfulParts}
use Rattle.decoder.specs.Pieces.{points_of, AreOfBytes, HaveNoValue, HaveValue, IsInterpolated}
use Rattle.poly.specs.Basis.{HasRows}
use Rattle.decoder.specs.Rows.{AreBlockBytes, block_byte}
use Rattle.decoder.proofs.WholeBlockLemmas.{no_piece, part_of, part_of-at, byte_below-sum, blocks_of, length-blocks_of, get_or-blocks_of}
use Rattle.decoder.proofs.WholeBlockLemmas.{block_lt, place_lt, len_le_whole, whole_lt}
use Rattle.decoder.proofs.ValuePrefixLemmas.{IsInterpolated-cut, padding-blocks_of}
use Rattle.decoder.proofs.PointAndFragmentLemmas.{length-pieces_at, get_or-pieces_at, points-pieces_at, count, other_count, distinct_points}
use Rattle.decoder.proofs.PointAndFragmentLemmas.{fragment_at-len}

module _ (k len : ℕ) (points : List ℕ) (fragments : List (List ℕ)) (parts : AreLawfulParts k len points fragments)
    (bytes : AreOfBytes (pieces_at len points fragments)) where
  abbrev pieces : List Piece
  pieces = pieces_at len points fragments

  pub part-pieces_at : (i : ℕ) → i < k → part_of pieces i ≡ get_or fragments i []
  unfolding piece_at
  part-pieces_at i hi =
      let inside : i < length points = omega (arith, count k len points fragments parts) in
      part_of-at pieces i no_piece (omega (arith, length-pieces_at len points fragments))
      ∙ ap (λ (p : Piece). p.bytes) (get_or-pieces_at len points fragments i no_piece inside)

  pub fragment_byte_lt : (i b : ℕ) → i < k → b < fragment_len k len → get_or (get_or fragments i []) b 0 < 256
  fragment_byte_lt i b hi hb =
      let within : i < length pieces = omega (arith, parts.lawful.count) in
      let long = fragment_at-len k len points fragments parts i (omega (arith, other_count k len points fragments parts)) in
      subst (λ xs. All (λ x. x < 256) xs)
      (sym (part_of-at pieces i no_piece within) ∙ part-pieces_at i hi) (bytes.fragments i no_piece within) b 0 (omega arith)

  -- a sum by a column is a byte of the blocks
  pub block_byte-blocks_of : (table : List ℕ) → HasRows table points → (n : ℕ) → n < k * fragment_len k len
      → block_byte table fragments (n / fragment_len k len) (n % fragment_len k len) ≡ get_or (blocks_of k len pieces) n 0
  unfolding dot_byte
  block_byte-blocks_of table rows n hn =
      let f = fragment_len k len in
      let j = n / f in
      let b = n % f in
      let hj : j < k = block_lt k f n hn in
      let hb : b < f = place_lt k f n hn in
      let term_at : ℕ → ℕ = λ i. field_product (get_or (part_of pieces i) b 0) (get_or (basis_row (points_of pieces) i) j 0) in
      ap (λ m. field_sum m (term (row table (length fragments) j) fragments b)) (other_count k len points fragments parts)
      ∙ field_sum_same k (term (row table (length fragments) j) fragments b) term_at
      (λ i hi.
      let inside : i < length points = omega (arith, count k len points fragments parts) in
      let line = rows i inside in
      let of_bytes = subst (λ xs. All (λ x. x < 256) xs) (points-pieces_at len points fragments) bytes.points in
      let distinct = distinct_points k len points fragments parts in
      let same_row : line.basis ≡ basis_row points i =
      IsBasisRow-unique points of_bytes distinct i line.basis (basis_row points i) inside line.is_row
      (IsBasisRow-basis_row points of_bytes distinct i inside) in
      let column : j < length points = omega (arith, count k len points fragments parts) in
      let coefficient : get_or table (i * length fragments + j) 0 ≡ get_or line.basis j 0 =
      ap (λ w. get_or table (i * w + j) 0) parts.as_many ∙ line.same j column in
      let number : get_or line.basis j 0 < 256 = line.is_row.bytes j 0 (omega (arith, line.is_row.len)) in
      ap (λ c. field_product c (get_or (get_or fragments i []) b 0)) coefficient
      ∙ product_comm (get_or line.basis j 0) (get_or (get_or fragments i []) b 0) number (fragment_byte_lt i b hi hb)
      ∙ ap₂ (λ ys xs. field_product (get_or ys b 0) (get_or xs j 0)) (sym (part-pieces_at i hi))
      (same_row ∙ ap (λ ps. basis_row ps i) (sym (points-pieces_at len points fragments))))
      ∙ sym (get_or-blocks_of k len pieces n hn ∙ byte_below-sum pieces f k n)

  -- the bytes past the end, as the sums give them
  abbrev pub ZerosPast : List ℕ → Type 0
  ZerosPast table = (n : ℕ) → len ≤ n → n < k * fragment_len k len
      → block_byte table fragments (n / fragment_len k len) (n % fragment_len k len) ≡ 0

  -- as they are read
  zeros_size : (m f : ℕ) → m ≡ k → f ≡ fragment_len k len → m * f ≡ k * fragment_len k len
  zeros_size m f is_k is_f = ap₂ (λ a b. a * b) is_k is_f

  pub zeros_read : (table : List ℕ) (m f : ℕ) → m ≡ k → f ≡ fragment_len k len
      → ((n : ℕ) → len ≤ n → n < m * f → block_byte table fragments (n / f) (n % f) ≡ 0) → ZerosPast table
  zeros_read table m f is_k is_f zeros n past inside =
      ap (λ g. block_byte table fragments (n / g) (n % g)) (sym is_f)
      ∙ zeros n past (subst (λ x. n < x) (sym (zeros_size m f is_k is_f)) inside)

  pub zeros_told : (table : List ℕ) (m f : ℕ) → m ≡ k → f ≡ fragment_len k len → ZerosPast table
      → (n : ℕ) → len ≤ n → n < m * f → block_byte table fragments (n / f) (n % f) ≡ 0
  zeros_told table m f is_k is_f zeros n past inside =
      ap (λ g. block_byte table fragments (n / g) (n % g)) is_f
      ∙ zeros n past (subst (λ x. n < x) (zeros_size m f is_k is_f) inside)

  pub zeros_past : (table : List ℕ) → HasRows table points → ZerosPast table → All (λ b. b ≡ 0) (drop len (blocks_of k len pieces))
  zeros_past table rows zeros =
      let blocks = blocks_of k len pieces in
      let whole = length-blocks_of k len pieces in
      All-from_get_or (λ b. b ≡ 0) (drop len blocks) 0
      (λ n hn.
      let inside : len + n < k * fragment_len k len = omega (arith, length-drop len blocks) in
      get_or-drop len blocks n 0 ∙ sym (block_byte-blocks_of table rows (len + n) inside) ∙ zeros (len + n) (omega arith) inside)

  -- where all are zero, the sums are the value
  pub IsInterpolated-sums : (table value : List ℕ) → HasRows table points → ZerosPast table → length value ≡ len
      → AreBlockBytes value (fragment_len k len) table fragments → IsInterpolated k len pieces value
  IsInterpolated-sums table value rows zeros long sums =
      let f = fragment_len k len in
      let blocks = blocks_of k len pieces in
      let whole = length-blocks_of k len pieces in
      let enough : len ≤ k * f = len_le_whole k len parts.lawful.some in
      let cut_len : length (take len blocks) ≡ len = simp length-take (omega arith) in
      let same : value ≡ take len blocks =
      same_number_lists value (take len blocks) (long ∙ sym cut_len)
      (λ n hn.
      let low : n < len = omega arith in
      let inside : n < k * f = omega arith in
      let place : n / f * f + n % f ≡ n = div-add-mod' n f in
      ap (λ m. get_or value m 0) (sym place) ∙ sums (n / f) (n % f) (place_lt k f n inside) (omega arith)
      ∙ block_byte-blocks_of table rows n inside ∙ sym (get_or-take len blocks n 0 low)) in
      subst (IsInterpolated k len pieces) (sym same) (IsInterpolated-cut k len pieces parts.lawful bytes (zeros_past table rows zeros))

  pub made_value : (table : List ℕ) → HasRows table points → ZerosPast table → HaveValue k len pieces
  made_value table rows zeros = record {
    value = take len (blocks_of k len pieces);
    interpolated = IsInterpolated-cut k len pieces parts.lawful bytes (zeros_past table rows zeros);
  }

  pub some_value : (table : List ℕ) → HasRows table points → ZerosPast table → ¬ HaveNoValue k len pieces
  some_value table rows zeros none =
      let made = made_value table rows zeros in
      none made.value made.interpolated

  -- where there is a value, all are zero
  pub zeros_of_value : (table value : List ℕ) → HasRows table points → IsInterpolated k len pieces value → ZerosPast table
  zeros_of_value table value rows known n past inside =
      let blocks = blocks_of k len pieces in
      let whole = length-blocks_of k len pieces in
      let place : len + (n - len) ≡ n = omega arith in
      block_byte-blocks_of table rows n inside
      ∙ ap (λ m. get_or blocks m 0) (sym place)
      ∙ sym (get_or-drop len blocks (n - len) 0)
      ∙ padding-blocks_of k len pieces parts.lawful bytes value known (n - len) 0 (omega (arith, length-drop len blocks))

  -- the blocks are short enough to be counted, and long enough for the value
  pub whole_fits : (m f : ℕ) → m ≡ k → f ≡ fragment_len k len → m * f < 2 ^ 64
  whole_fits m f is_k is_f =
      let lawful = parts.lawful in
      omega (arith, zeros_size m f is_k is_f, whole_lt k len lawful.some, lawful.most, lawful.longest)

  pub whole_holds : (m f : ℕ) → m ≡ k → f ≡ fragment_len k len → len ≤ m * f
  whole_holds m f is_k is_f = omega (arith, zeros_size m f is_k is_f, len_le_whole k len parts.lawful.some)
