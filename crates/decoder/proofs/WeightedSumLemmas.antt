-- The sums of fragments by the values of their rows at a point: they are the fragment at that point.
use Rattle.std.proofs.Common.{◌≡◌, ℕ, ◌+◌, ◌-◌, ◌*◌, ◌<◌, ◌≤◌, List, [], length, get_or, take, drop, true, sym, ap, ap₂}
use Rattle.std.proofs.Common.{subst, ◌∙◌, arith, get_or-take, get_or-drop, length-take, length-drop}
use Rattle.std.proofs.lemmas.Grind.{same_number_lists}
use Rattle.gf256.specs.Field.{field_product, field_sum}
use Rattle.gf256.specs.Polynomial.{AreBytes, AreDistinct, evaluate}
use Rattle.gf256.proofs.BasisRowLemmas.{basis_row, AreBytes-basis_row, IsBasisRow-unique, IsBasisRow-basis_row}
use Rattle.gf256.proofs.FieldLemmas.{product_comm}
use Rattle.gf256.proofs.FieldSumLemmas.{field_sum_same}
use Rattle.gf256.proofs.RootLemmas.{evaluate_lt}
use Rattle.kernels.specs.Dot.{dot_byte, row, term}
use Rattle.kernels.specs.Level.{HaveLevels}
use Rattle.kernels.proofs.LevelSumLemmas.{level_zero}
use Rattle.encoder.specs.Fragment.{fragment, fragment_len}
use Rattle.piece.specs.declared.piece.Piece.{Piece}
use Rattle.encoder.proofs.ColumnLemmas.{length-fragment, get_or-fragment}
use Rattle.encoder.proofs.RowPlaceLemmas.{rows_apart}
use Rattle.decoder.specs.Parts.{pieces_at, AreLawfulParts}
use Rattle.decoder.specs.Pieces.{points_of, AreOfBytes, IsInterpolated}
use Rattle.poly.specs.Basis.{HasRows}
use Rattle.decoder.specs.Rows.{line_value}
use Rattle.decoder.proofs.ColumnSumLemmas.{value_sum}
use Rattle.decoder.proofs.PointAndFragmentLemmas.{points-pieces_at, count, other_count, distinct_points}
use Rattle.decoder.proofs.SummedValueLemmas.{part-pieces_at, fragment_byte_lt}
use Rattle.decoder.proofs.WholeBlockLemmas.{part_of, byte_of_fragment}

-- a table of the rows of distinct points
module _ (table points : List ℕ) (bytes : AreBytes points) (distinct : AreDistinct points)
    (rows : HasRows table points) (size : length table ≡ length points * length points) where
  -- its lines are the rows
  line_row : (i : ℕ) → i < length points → take (length points) (drop (i * length points) table) ≡ basis_row points i
  line_row i hi =
      let k = length points in
      let known = rows i hi in
      let is_row = IsBasisRow-basis_row points bytes distinct i hi in
      let same = IsBasisRow-unique points bytes distinct i known.basis (basis_row points i) hi known.is_row is_row in
      let rest : List ℕ = drop (i * k) table in
      let enough : i * k + k ≤ k * k = rows_apart i k k hi in
      let left : length rest ≡ length table - i * k = length-drop (i * k) table in
      let long : length (take k rest) ≡ k = simp length-take (omega arith) in
      same_number_lists (take k rest) (basis_row points i) (long ∙ sym is_row.len)
      (λ j hj.
      let inside : j < k = omega arith in
      get_or-take k rest j 0 inside ∙ get_or-drop (i * k) table j 0 ∙ known.same j inside ∙ ap (λ (b : List ℕ). get_or b j 0) same)

  pub line_value-row : (x i : ℕ) → i < length points → line_value table (length points) x i ≡ evaluate (basis_row points i) x
  line_value-row x i hi = ap (λ (cs : List ℕ). evaluate cs x) (line_row i hi)

  -- the values at x sum up to 1
  pub HaveLevels-values : (tables : List ℕ) (x : ℕ) → 0 < length points → x < 256
      → ((i : ℕ) → i < length points → get_or tables i 0 ≡ line_value table (length points) x i)
      → HaveLevels tables 1 (length points) true
  HaveLevels-values tables x some hx values r hr =
      let k = length points in
      let first : r ≡ 0 = omega arith in
      field_sum_same k (row tables 1 r) (λ i. evaluate (basis_row points i) x)
      (λ i hi.
      let place : i * 1 + r ≡ i = omega arith in
      ap (λ n. get_or tables n 0) place ∙ values i hi ∙ line_value-row x i hi)
      ∙ value_sum points bytes distinct some x hx
      ∙ sym (level_zero r first)

module _ (k len : ℕ) (points : List ℕ) (fragments : List (List ℕ)) (parts : AreLawfulParts k len points fragments)
    (bytes : AreOfBytes (pieces_at len points fragments)) where
  abbrev pieces : List Piece
  pieces = pieces_at len points fragments

  of_bytes : AreBytes points
  of_bytes = subst AreBytes (points-pieces_at len points fragments) bytes.points

  -- the sums are the fragment of the value that has these fragments
  pub fragment-sums : (table out : List ℕ) (x : ℕ) → x < 256 → HasRows table points → length table ≡ k * k
      → length out ≡ fragment_len k len
      → ((b : ℕ) → b < length out → get_or out b 0 ≡ dot_byte (line_value table (length points) x) fragments b)
      → (value : List ℕ) → IsInterpolated k len pieces value → out ≡ fragment value k x
  unfolding dot_byte
  fragment-sums table out x hx rows size out_len sums value known =
      let is_k = count k len points fragments parts in
      let distinct = distinct_points k len points fragments parts in
      let whole : length table ≡ length points * length points = size ∙ ap (λ (n : ℕ). n * n) (sym is_k) in
      let same_len : fragment_len k (length value) ≡ fragment_len k len = ap (fragment_len k) known.value_len in
      let weight : ℕ → ℕ = line_value table (length points) x in
      same_number_lists out (fragment value k x) (out_len ∙ sym (length-fragment value k x ∙ same_len))
      (λ b hb.
      let inside : b < fragment_len k len = subst (λ n. b < n) out_len hb in
      let term_at : ℕ → ℕ = λ i. field_product (get_or (part_of pieces i) b 0) (evaluate (basis_row (points_of pieces) i) x) in
      sums b hb
      ∙ ap (λ m. field_sum m (term weight fragments b)) (other_count k len points fragments parts)
      ∙ field_sum_same k (term weight fragments b) term_at
      (λ i hi.
      let place : i < length points = subst (λ n. i < n) (sym is_k) hi in
      let byte : ℕ = get_or (get_or fragments i []) b 0 in
      let value_lt = evaluate_lt (basis_row points i) x (AreBytes-basis_row points of_bytes distinct i place) hx in
      ap (λ c. field_product c byte) (line_value-row table points of_bytes distinct rows whole x i place)
      ∙ product_comm (evaluate (basis_row points i) x) byte value_lt
      (fragment_byte_lt k len points fragments parts bytes i b hi inside)
      ∙ ap₂ (λ ys ps. field_product (get_or ys b 0) (evaluate (basis_row ps i) x))
      (sym (part-pieces_at k len points fragments parts bytes i hi)) (sym (points-pieces_at len points fragments)))
      ∙ sym (byte_of_fragment k len pieces parts.lawful bytes value known x b hx inside)
      ∙ sym (get_or-fragment value k x b (subst (λ n. b < n) (sym same_len) inside)))
