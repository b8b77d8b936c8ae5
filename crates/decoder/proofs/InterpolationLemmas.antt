-- The bytes of the value whose fragments at distinct points are given.
use Rattle.std.proofs.Common.{◌≡◌, ℕ, zero, suc, ◌+◌, ◌*◌, ◌<◌, List, length, get_or, map, refl, sym, ap, subst, ◌∙◌, arith}
use Rattle.std.specs.List.{range_with_len}
use Rattle.std.proofs.lemmas.List.Elements.{All-from_get_or}
use Rattle.std.proofs.lemmas.List.FromFn.{length-map-range_with_len, get_or-map-range_with_len}
use Rattle.std.proofs.lemmas.Grind.{same_number_lists}
use Rattle.gf256.specs.Field.{field_product, field_sum}
use Rattle.gf256.specs.Polynomial.{AreBytes, AreDistinct, Interpolates, evaluate}
use Rattle.gf256.proofs.FieldSumLemmas.{field_sum_same}
use Rattle.gf256.proofs.BasisRowLemmas.{basis_row, AreBytes-basis_row, IsBasisRow-basis_row}
use Rattle.gf256.proofs.LinearCombinationLemmas.{combination, evaluate-combination, get_or-combination, length-combination}
use Rattle.gf256.proofs.InterpolationLemmas.{interpolation, get_or-interpolation, Interpolates-interpolation, Interpolates-unique}
use Rattle.encoder.specs.Fragment.{fragment_len, fragment, fragment_byte}
use Rattle.encoder.proofs.ColumnLemmas.{column, length-column, get_or-column, AreBytes-column}
use Rattle.encoder.proofs.ColumnLemmas.{fragment_byte-column, length-fragment, get_or-fragment}

-- the value at x of an interpolation, as the sum of the values of its rows
module _ (points : List ℕ) (bytes : AreBytes points) (distinct : AreDistinct points) where
  combination_len : (values : List ℕ) (n : ℕ) → n ≡ length points →
      length (combination n (λ i. get_or values i 0) (basis_row points)) ≡ length points
  unfolding combination
  combination_len values zero e = e
  combination_len values (suc n) e =
      length-combination n (length points) (λ i. get_or values i 0) (basis_row points)
      (λ i hi. (IsBasisRow-basis_row points bytes distinct i (omega arith)).len)

  pub evaluate-interpolation : (values : List ℕ) → AreBytes values → length values ≡ length points → (x : ℕ) → x < 256
      → evaluate (interpolation points values) x
      ≡ field_sum (length points) (λ i. field_product (get_or values i 0) (evaluate (basis_row points i) x))
  evaluate-interpolation values values_bytes len x hx =
      let n = length points in
      let made : List ℕ = combination n (λ i. get_or values i 0) (basis_row points) in
      let known = Interpolates-interpolation points bytes distinct values values_bytes len in
      ap (λ cs. evaluate cs x)
      (same_number_lists (interpolation points values) made (known.len ∙ sym (combination_len values n refl))
      (λ j hj. get_or-interpolation points values j ∙ sym (get_or-combination n (λ i. get_or values i 0) (basis_row points) j)))
      ∙ evaluate-combination n (λ i. get_or values i 0) (basis_row points) x (λ i hi. values_bytes i 0 (omega arith))
      (AreBytes-basis_row points bytes distinct) hx

-- byte b of each of k fragments
values_at : ℕ → (ℕ → List ℕ) → ℕ → List ℕ
values_at k part b = map (λ i. get_or (part i) b 0) (range_with_len 0 k)

length-values_at : (k : ℕ) (part : ℕ → List ℕ) (b : ℕ) → length (values_at k part b) ≡ k
unfolding values_at
length-values_at k part b = length-map-range_with_len (λ i. get_or (part i) b 0) 0 k

get_or-values_at : (k : ℕ) (part : ℕ → List ℕ) (b i : ℕ) → i < k → get_or (values_at k part b) i 0 ≡ get_or (part i) b 0
unfolding values_at
get_or-values_at k part b i hi = get_or-map-range_with_len (λ i. get_or (part i) b 0) 0 k i i 0 hi (omega arith)

-- what the parts below n give to byte b of block j: the sum of each part's byte b times coefficient j of its row
unfoldable pub partly_interpolated : ℕ → List ℕ → (ℕ → List ℕ) → ℕ → ℕ → ℕ
partly_interpolated n points part j b = field_sum n (λ i. field_product (get_or (part i) b 0) (get_or (basis_row points i) j 0))

-- k fragments, of values of len bytes, at distinct points
module _ (k len : ℕ) (points : List ℕ) (part : ℕ → List ℕ) (count : length points ≡ k)
    (bytes : AreBytes points) (distinct : AreDistinct points)
    (part_bytes : (i : ℕ) → i < k → AreBytes (part i))
    (part_len : (i : ℕ) → i < k → length (part i) ≡ fragment_len k len) where
  AreBytes-values_at : (b : ℕ) → b < fragment_len k len → AreBytes (values_at k part b)
  AreBytes-values_at b hb =
      All-from_get_or (λ x. x < 256) (values_at k part b) 0
      (λ i hi.
      let within : i < k = omega (arith, length-values_at k part b) in
      subst (λ x. x < 256) (sym (get_or-values_at k part b i within)) (part_bytes i within b 0 (omega (arith, part_len i within))))

  -- the bytes b of the blocks, as the coefficients of a polynomial
  interpolates : (b : ℕ) → b < fragment_len k len → Interpolates points (values_at k part b) (interpolation points (values_at k part b))
  interpolates b hb =
      Interpolates-interpolation points bytes distinct (values_at k part b) (AreBytes-values_at b hb)
      (length-values_at k part b ∙ sym count)

  get_or-interpolation_at : (j b : ℕ) → get_or (interpolation points (values_at k part b)) j 0 ≡ partly_interpolated k points part j b
  unfolding partly_interpolated
  get_or-interpolation_at j b =
      get_or-interpolation points (values_at k part b) j
      ∙ ap (λ n. field_sum n (λ i. field_product (get_or (values_at k part b) i 0) (get_or (basis_row points i) j 0))) count
      ∙ field_sum_same k (λ i. field_product (get_or (values_at k part b) i 0) (get_or (basis_row points i) j 0))
      (λ i. field_product (get_or (part i) b 0) (get_or (basis_row points i) j 0))
      (λ i hi. ap (λ y. field_product y (get_or (basis_row points i) j 0)) (get_or-values_at k part b i hi))

  pub interpolated_lt : (j b : ℕ) → j < k → b < fragment_len k len → partly_interpolated k points part j b < 256
  interpolated_lt j b hj hb =
      let known = interpolates b hb in
      subst (λ x. x < 256) (get_or-interpolation_at j b) (known.bytes j 0 (omega (arith, known.len)))

  -- the bytes b of the blocks of a value with these fragments are the interpolation
  column_interpolated : (value : List ℕ) → AreBytes value → fragment_len k (length value) ≡ fragment_len k len
      → ((i : ℕ) → i < k → fragment value k (get_or points i 0) ≡ part i)
      → (b : ℕ) → b < fragment_len k len → column value k (fragment_len k len) b ≡ interpolation points (values_at k part b)
  column_interpolated value value_bytes same_len fragments b hb =
      let f = fragment_len k len in
      let known : Interpolates points (values_at k part b) (column value k f b) =
      record {
        len = length-column value k f b ∙ sym count;
        bytes = AreBytes-column value k f b value_bytes;
        at_points = λ i hi.
            let within : i < k = omega arith in
            ap (λ g. evaluate (column value k g b) (get_or points i 0)) (sym same_len)
            ∙ sym (fragment_byte-column value k (get_or points i 0) b value_bytes (bytes i 0 hi))
            ∙ sym (get_or-fragment value k (get_or points i 0) b (subst (λ n. b < n) (sym same_len) hb))
            ∙ ap (λ xs. get_or xs b 0) (fragments i within)
            ∙ sym (get_or-values_at k part b i within);
      } in
      Interpolates-unique points bytes distinct (values_at k part b) _ _ known (interpolates b hb)

  -- so it has the interpolated bytes
  pub value_interpolated : (value : List ℕ) → AreBytes value → fragment_len k (length value) ≡ fragment_len k len
      → ((i : ℕ) → i < k → fragment value k (get_or points i 0) ≡ part i)
      → (j b : ℕ) → j < k → b < fragment_len k len
      → get_or value (j * fragment_len k len + b) 0 ≡ partly_interpolated k points part j b
  value_interpolated value value_bytes same_len fragments j b hj hb =
      sym (get_or-column value k (fragment_len k len) b j hj)
      ∙ ap (λ cs. get_or cs j 0) (column_interpolated value value_bytes same_len fragments b hb)
      ∙ get_or-interpolation_at j b

  -- and its fragment at x is the sum of the fragments, each times the value of its row at x
  pub fragment_interpolated : (value : List ℕ) → AreBytes value → fragment_len k (length value) ≡ fragment_len k len
      → ((i : ℕ) → i < k → fragment value k (get_or points i 0) ≡ part i)
      → (x b : ℕ) → x < 256 → b < fragment_len k len
      → fragment_byte value k x b ≡ field_sum k (λ i. field_product (get_or (part i) b 0) (evaluate (basis_row points i) x))
  fragment_interpolated value value_bytes same_len fragments x b hx hb =
      let row_at : ℕ → ℕ = λ i. evaluate (basis_row points i) x in
      fragment_byte-column value k x b value_bytes hx
      ∙ ap (λ g. evaluate (column value k g b) x) same_len
      ∙ ap (λ cs. evaluate cs x) (column_interpolated value value_bytes same_len fragments b hb)
      ∙ evaluate-interpolation points bytes distinct (values_at k part b) (AreBytes-values_at b hb)
      (length-values_at k part b ∙ sym count) x hx
      ∙ ap (λ n. field_sum n (λ i. field_product (get_or (values_at k part b) i 0) (row_at i))) count
      ∙ field_sum_same k (λ i. field_product (get_or (values_at k part b) i 0) (row_at i))
      (λ i. field_product (get_or (part i) b 0) (row_at i))
      (λ i hi. ap (λ y. field_product y (row_at i)) (get_or-values_at k part b i hi))

  -- what has the interpolated bytes has these fragments
  pub fragments_from_interpolated : (value : List ℕ) → AreBytes value → fragment_len k (length value) ≡ fragment_len k len
      → ((j b : ℕ) → j < k → b < fragment_len k len → get_or value (j * fragment_len k len + b) 0 ≡ partly_interpolated k points part j b)
      → (i : ℕ) → i < k → fragment value k (get_or points i 0) ≡ part i
  fragments_from_interpolated value value_bytes same_len at_bytes i hi =
      let f = fragment_len k len in
      let x = get_or points i 0 in
      let within : i < length points = omega arith in
      same_number_lists (fragment value k x) (part i) (length-fragment value k x ∙ same_len ∙ sym (part_len i hi))
      (λ b hb.
      let inside : b < f = subst (λ n. b < n) (length-fragment value k x ∙ same_len) hb in
      let known = interpolates b inside in
      let same : column value k f b ≡ interpolation points (values_at k part b) =
      same_number_lists (column value k f b) (interpolation points (values_at k part b))
      (length-column value k f b ∙ sym (known.len ∙ count))
      (λ j hj.
      let in_k : j < k = subst (λ n. j < n) (length-column value k f b) hj in
      get_or-column value k f b j in_k ∙ at_bytes j b in_k inside ∙ sym (get_or-interpolation_at j b)) in
      get_or-fragment value k x b (subst (λ n. b < n) (sym same_len) inside)
      ∙ fragment_byte-column value k x b value_bytes (bytes i 0 within)
      ∙ ap (λ g. evaluate (column value k g b) x) same_len
      ∙ ap (λ cs. evaluate cs x) same
      ∙ known.at_points i within
      ∙ get_or-values_at k part b i hi)
