-- The polynomial that has given values at distinct points: there is exactly one with as many coefficients as points,
-- and it is the sum of the values times the rows of Lagrange's basis.
use Rattle.std.proofs.Common.{◌≡◌, ℕ, zero, suc, ◌<◌, List, length, get_or}
use Rattle.std.proofs.Common.{refl, sym, ap, ◌∙◌, arith}
use Rattle.std.proofs.lemmas.List.Elements.{All-from_get_or}
use Rattle.gf256.specs.Field.{field_product, field_sum}
use Rattle.gf256.specs.Polynomial.{AreBytes, AreDistinct, evaluate, Interpolates}
use Rattle.gf256.proofs.FieldLemmas.{product-zero_right, product-one_right}
use Rattle.gf256.proofs.FieldSumLemmas.{field_sum_one}
use Rattle.gf256.proofs.RootLemmas.{same_from_values}
use Rattle.gf256.proofs.LinearCombinationLemmas.{combination, evaluate-combination, get_or-combination, AreBytes-combination}
use Rattle.gf256.proofs.LinearCombinationLemmas.{length-combination}
use Rattle.gf256.proofs.BasisRowLemmas.{basis_row, AreBytes-basis_row, IsBasisRow-basis_row}

-- the polynomial that has the values at the points: the sum of each value times its row
pub interpolation : List ℕ → List ℕ → List ℕ
interpolation points values = combination (length points) (λ i. get_or values i 0) (basis_row points)

pub get_or-interpolation : (points values : List ℕ) (j : ℕ) → get_or (interpolation points values) j 0
    ≡ field_sum (length points) (λ i. field_product (get_or values i 0) (get_or (basis_row points i) j 0))
unfolding interpolation
get_or-interpolation points values j = get_or-combination (length points) (λ i. get_or values i 0) (basis_row points) j

module _ (points : List ℕ) (bytes : AreBytes points) (distinct : AreDistinct points) where
  combination_len : (values : List ℕ) (n : ℕ) → n ≡ length points →
      length (combination n (λ i. get_or values i 0) (basis_row points)) ≡ length points
  unfolding combination
  combination_len values zero e = e
  combination_len values (suc n) e =
      length-combination n (length points) (λ i. get_or values i 0) (basis_row points)
      (λ i hi. (IsBasisRow-basis_row points bytes distinct i (omega arith)).len)

  pub Interpolates-interpolation : (values : List ℕ) → AreBytes values → length values ≡ length points
      → Interpolates points values (interpolation points values)
  unfolding interpolation
  Interpolates-interpolation values hv len =
      let y_bytes : (i : ℕ) → i < length points → get_or values i 0 < 256 = λ i hi. hv i 0 (omega arith) in
      record {
        len = combination_len values (length points) refl;
        bytes = AreBytes-combination (length points) (λ i. get_or values i 0) (basis_row points) y_bytes
            (AreBytes-basis_row points bytes distinct);
        at_points = λ j hj.
            let x = get_or points j 0 in
            evaluate-combination (length points) (λ i. get_or values i 0) (basis_row points) x y_bytes
            (AreBytes-basis_row points bytes distinct) (bytes j 0 hj)
            ∙ field_sum_one (length points) (λ i. field_product (get_or values i 0) (evaluate (basis_row points i) x)) j hj
            (λ i hi apart.
            ap (field_product (get_or values i 0)) ((IsBasisRow-basis_row points bytes distinct i hi).zero j hj (λ e. apart (sym e)))
            ∙ product-zero_right (get_or values i 0))
            ∙ ap (field_product (get_or values j 0)) (IsBasisRow-basis_row points bytes distinct j hj).one
            ∙ product-one_right (get_or values j 0) (y_bytes j hj);
      }

  -- there is one such polynomial
  pub Interpolates-unique : (values cs ds : List ℕ) → Interpolates points values cs → Interpolates points values ds → cs ≡ ds
  Interpolates-unique values cs ds hc hd =
      same_from_values cs ds points hc.bytes hd.bytes bytes distinct hc.len hd.len
      (All-from_get_or (λ p. evaluate cs p ≡ evaluate ds p) points 0 (λ k hk. hc.at_points k hk ∙ sym (hd.at_points k hk)))
