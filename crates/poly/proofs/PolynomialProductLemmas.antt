-- The product of `x + point` over points, and a polynomial written back coefficient by coefficient.
use Rattle.std.proofs.Common.{◌≡◌, ℕ, zero, suc, ◌+◌, ◌-◌, add-one, ap₂, ◌<◌, lit<, ⊎_elim, List, [], ◌∷◌, ◌++◌, length, get_or}
use Rattle.std.proofs.Common.{length-append, append-nil, take, take_all, drop_of_length-le, bit_xor, refl, sym, ap, subst, ◌∙◌, arith}
use Rattle.std.proofs.lemmas.List.Elements.{All-nil, All-cons}
use Rattle.std.proofs.lemmas.Bool.{cases_lt}
use Rattle.std.proofs.lemmas.Grind.{same_number_lists}
use Rattle.std.specs.Int.Bits.{xor_zero_l, xor_zero_r, xor_self}
use Rattle.std.specs.List.{refill}
use Rattle.std.proofs.lemmas.List.{length-map, get_or_append_left, get_or_past}
use Rattle.gf256.proofs.FieldLemmas.{product-zero_left, product-zero_right, product_comm}
use Rattle.gf256.specs.Field.{field_product}
use Rattle.gf256.specs.Polynomial.{AreBytes, evaluate, scaled}
use Rattle.gf256.proofs.BasisRowLemmas.{times_root, length-times_root}
use Rattle.gf256.proofs.LinearCombinationLemmas.{get_or-sum_of, get_or-scaled}
use Rattle.poly.specs.Basis.{IsProduct}

get_or-times_root : (root : ℕ) (cs : List ℕ) (m : ℕ)
    → get_or (times_root root cs) m 0 ≡ bit_xor (get_or (0 ∷ cs) m 0) (field_product root (get_or cs m 0))
unfolding times_root
get_or-times_root root cs m =
    get_or-sum_of (0 ∷ cs) (scaled root cs) m ∙ ap (bit_xor (get_or (0 ∷ cs) m 0)) (get_or-scaled root cs m)

-- a zero at the end changes no coefficient
get_or-zero_last : (cs : List ℕ) (m : ℕ) → get_or (cs ++ 0 ∷ []) m 0 ≡ get_or cs m 0
get_or-zero_last [] zero = refl
get_or-zero_last [] (suc m) = refl
get_or-zero_last (c ∷ cs) zero = refl
get_or-zero_last (c ∷ cs) (suc m) = get_or-zero_last cs m

-- what has the coefficients of x + root times a polynomial is that product
times_root_made : (root : ℕ) (cs old new : List ℕ) → root < 256 → AreBytes old → old ≡ cs ++ 0 ∷ [] → length new ≡ length old
    → get_or new 0 0 ≡ field_product (get_or old 0 0) root
    → ((m : ℕ) → m + 1 < length old → get_or new (m + 1) 0 ≡ bit_xor (get_or old m 0) (field_product (get_or old (m + 1) 0) root))
    → new ≡ times_root root cs
times_root_made root cs old new hr bytes padded len constant others =
    let size : length old ≡ length cs + 1 = ap length padded ∙ length-append cs (0 ∷ []) in
    let at : (m : ℕ) → get_or old m 0 ≡ get_or cs m 0 = λ m. ap (λ xs. get_or xs m 0) padded ∙ get_or-zero_last cs m in
    let times : (m : ℕ) → m < length old → field_product (get_or old m 0) root ≡ field_product root (get_or cs m 0) =
    λ m hm. product_comm (get_or old m 0) root (bytes m 0 hm) hr ∙ ap (field_product root) (at m) in
    same_number_lists new (times_root root cs) (len ∙ size ∙ add-one (length cs) ∙ sym (length-times_root root cs))
    (λ m hm.
    ⊎_elim
    (λ low.
    let e : m ≡ 0 = omega arith in
    ap (λ n. get_or new n 0) e ∙ constant ∙ times 0 (omega arith)
    ∙ sym (xor_zero_l (field_product root (get_or cs 0 0)))
    ∙ sym (get_or-times_root root cs 0) ∙ ap (λ n. get_or (times_root root cs) n 0) (sym e))
    (λ high.
    let j = m - 1 in
    let e : m ≡ j + 1 = omega arith in
    let inside : j + 1 < length old = omega arith in
    ap (λ n. get_or new n 0) e ∙ others j inside
    ∙ ap₂ bit_xor (at j ∙ ap (λ n. get_or (0 ∷ cs) n 0) (sym (add-one j))) (times (j + 1) inside)
    ∙ sym (get_or-times_root root cs (j + 1)) ∙ ap (λ n. get_or (times_root root cs) n 0) (sym e))
    (cases_lt m 1))

-- what has each coefficient of a polynomial times y is y times it
pub scaled_made : (y : ℕ) (cs new : List ℕ) → y < 256 → AreBytes cs → length new ≡ length cs
    → ((m : ℕ) → m < length cs → get_or new m 0 ≡ field_product (get_or cs m 0) y) → new ≡ scaled y cs
scaled_made y cs new hy bytes len each =
    same_number_lists new (scaled y cs) (len ∙ sym (length-map cs (field_product y)))
    (λ m hm.
    let inside : m < length cs = omega arith in
    each m inside ∙ product_comm (get_or cs m 0) y (bytes m 0 inside) hy ∙ sym (get_or-scaled y cs m))

-- a whole list written back in place of one of its length
pub refill-whole : (n : ℕ) (xs ws : List ℕ) → length ws ≡ length xs → n ≡ length xs → refill n xs ws ≡ ws
refill-whole n xs ws len all =
    ap (λ ys. take n (ws ++ ys)) (drop_of_length-le xs (omega arith)) ∙ ap (take n) (append-nil ws) ∙ take_all n ws (omega arith)

-- the polynomial that has a zero pushed, once multiplied in place and written back
pub refill-times_root : (root : ℕ) (cs pushed old new : List ℕ) → root < 256 → AreBytes old → pushed ≡ cs ++ 0 ∷ [] → old ≡ pushed
    → length new ≡ length old → get_or new 0 0 ≡ field_product (get_or old 0 0) root
    → ((m : ℕ) → m + 1 < length old → get_or new (m + 1) 0 ≡ bit_xor (get_or old m 0) (field_product (get_or old (m + 1) 0) root))
    → refill (length pushed) pushed new ≡ times_root root cs
refill-times_root root cs pushed old new hr bytes padded same len constant others =
    refill-whole (length pushed) pushed new (len ∙ ap length same) refl
    ∙ times_root_made root cs old new hr bytes (same ∙ padded) len constant others

pub AreBytes-from_padded : (cs old : List ℕ) → old ≡ cs ++ 0 ∷ [] → AreBytes old → AreBytes cs
AreBytes-from_padded cs old padded bytes i d hi =
    subst (λ x. x < 256) (ap (λ xs. get_or xs i d) padded ∙ get_or_append_left cs (0 ∷ []) d i hi)
    (bytes i d (omega (arith, ap length padded, length-append cs (0 ∷ []))))

-- each point so far is a root of the product by one more
pub IsProduct-more : (points : List ℕ) (n : ℕ) (cs next : List ℕ) → AreBytes points → n < length points
    → length next ≡ length cs + 1 → AreBytes next
    → ((m : ℕ) → length cs ≡ m + 1 → get_or next (m + 1) 0 ≡ get_or cs m 0)
    → ((x : ℕ) → x < 256 → evaluate next x ≡ field_product (bit_xor x (get_or points n 0)) (evaluate cs x))
    → IsProduct points n cs → IsProduct points (n + 1) next
IsProduct-more points n cs next bytes hn len next_bytes highest at known =
    let q = get_or points n 0 in
    record {
      len = len ∙ ap (λ m. m + 1) known.len;
      bytes = next_bytes;
      highest = highest n known.len ∙ known.highest;
      zero = λ j hj.
          let x = get_or points j 0 in
          let hx : x < 256 = bytes j 0 (omega arith) in
          ⊎_elim
          (λ low. at x hx ∙ ap (field_product (bit_xor x q)) (known.zero j low) ∙ product-zero_right (bit_xor x q))
          (λ high.
          let e : j ≡ n = omega arith in
          at x hx ∙ ap (λ m. field_product (bit_xor (get_or points m 0) q) (evaluate cs x)) e
          ∙ ap (λ y. field_product y (evaluate cs x)) (xor_self q) ∙ product-zero_left (evaluate cs x))
          (cases_lt j n);
    }

pub IsProduct-none : (points : List ℕ) → IsProduct points 0 (1 ∷ [])
IsProduct-none points = record {
  len = refl;
  bytes = All-cons (λ x. x < 256) 1 [] (lit< tt) (All-nil (λ x. x < 256));
  highest = refl;
  zero = λ j hj. absurd (omega arith);
}

-- the coefficient that the highest one comes to stand at
pub highest-times_root : (root : ℕ) (cs : List ℕ) (m : ℕ) → length cs ≡ m + 1 → get_or (times_root root cs) (m + 1) 0 ≡ get_or cs m 0
highest-times_root root cs m len =
    get_or-times_root root cs (m + 1)
    ∙ ap₂ bit_xor (ap (λ n. get_or (0 ∷ cs) n 0) (add-one m)) (ap (field_product root) (get_or_past cs (m + 1) 0 (omega arith))
    ∙ product-zero_right root)
    ∙ xor_zero_r (get_or cs m 0)
