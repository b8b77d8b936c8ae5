-- A polynomial with as many roots as coefficients is zero, so two polynomials of one length that agree at as many points
-- are equal.
use Rattle.std.proofs.Common.{◌≡◌, ◌≢◌, ℕ, zero, suc, ◌<◌, ◌≤◌, List, [], ◌∷◌, length, get_or, bit_xor, All}
use Rattle.std.proofs.Common.{AllPairs, refl, sym, ap, ap₂, ◌∙◌, arith, lit<, suc-le-suc, zero-le, pos_of_ne-zero}
use Rattle.std.specs.Int.Bits.{xor_comm, xor_self, xor_zero_r, xor_lt}
use Rattle.std.proofs.lemmas.List.Elements.{All-nil, All-cons, All-head, All-tail}
use Rattle.gf256.specs.Field.{field_product}
use Rattle.gf256.specs.Polynomial.{AreBytes, AreDistinct, evaluate, sum_of, scaled}
use Rattle.gf256.proofs.AdditiveFunctionLemmas.{xor-xor, eq-xor_zero}
use Rattle.gf256.proofs.FieldLemmas.{product_lt, product_left_comm, product-zero_right}
use Rattle.gf256.proofs.FieldLemmas.{product-sum_left, product-sum_right, zero_from_product}

pub AllPairs-tail : {X : Type 0} (R : X → X → Type 0) (x : X) (xs : List X) → AllPairs R (x ∷ xs) → AllPairs R xs
AllPairs-tail R x xs h i j d hi hj = h (suc i) (suc j) d (suc-le-suc hi) (suc-le-suc hj)

pub AllPairs-head : {X : Type 0} (R : X → X → Type 0) (x : X) (xs : List X) → AllPairs R (x ∷ xs) → All (R x) xs
AllPairs-head R x xs h k d hk = h zero (suc k) d (suc-le-suc zero-le) (suc-le-suc hk)

abbrev pub AreZero : List ℕ → Type 0
AreZero xs = All (λ x. x ≡ 0) xs

abbrev pub IsByte : ℕ → Type 0
IsByte x = x < 256

pub evaluate_lt : (cs : List ℕ) (x : ℕ) → AreBytes cs → x < 256 → evaluate cs x < 256
unfolding evaluate
evaluate_lt [] x hc hx = lit< tt
evaluate_lt (c ∷ cs) x hc hx = xor_lt 8 c _ (All-head IsByte c cs hc) (product_lt x _ hx (evaluate_lt cs x (All-tail IsByte c cs hc) hx))

pub evaluate-sum_of : (cs ds : List ℕ) (x : ℕ) → evaluate (sum_of cs ds) x ≡ bit_xor (evaluate cs x) (evaluate ds x)
unfolding evaluate sum_of
evaluate-sum_of [] ds x = refl
evaluate-sum_of (c ∷ cs) [] x = sym (xor_zero_r _)
evaluate-sum_of (c ∷ cs) (d ∷ ds) x =
    ap (λ y. bit_xor (bit_xor c d) (field_product x y)) (evaluate-sum_of cs ds x)
    ∙ ap (bit_xor (bit_xor c d)) (product-sum_right x (evaluate cs x) (evaluate ds x))
    ∙ xor-xor c d (field_product x (evaluate cs x)) (field_product x (evaluate ds x))

pub evaluate-scaled : (y : ℕ) (cs : List ℕ) (x : ℕ) → y < 256 → AreBytes cs → x < 256 →
    evaluate (scaled y cs) x ≡ field_product y (evaluate cs x)
unfolding evaluate
evaluate-scaled y [] x hy hc hx = sym (product-zero_right y)
evaluate-scaled y (c ∷ cs) x hy hc hx =
    let rest : AreBytes cs = All-tail IsByte c cs hc in
    ap (λ z. bit_xor (field_product y c) (field_product x z)) (evaluate-scaled y cs x hy rest hx)
    ∙ ap (bit_xor (field_product y c)) (product_left_comm x y (evaluate cs x) hx hy (evaluate_lt cs x rest hx))
    ∙ sym (product-sum_right y c (field_product x (evaluate cs x)))

-- the values at r of the polynomial without its first coefficients: the quotient of (c ∷ cs) by x + r
unfoldable pub suffix_values : List ℕ → ℕ → List ℕ
suffix_values [] r = []
suffix_values (c ∷ cs) r = evaluate (c ∷ cs) r ∷ suffix_values cs r

pub length-suffix_values : (cs : List ℕ) (r : ℕ) → length (suffix_values cs r) ≡ length cs
unfolding suffix_values
length-suffix_values [] r = refl
length-suffix_values (c ∷ cs) r = ap suc (length-suffix_values cs r)

pub AreBytes-suffix_values : (cs : List ℕ) (r : ℕ) → AreBytes cs → r < 256 → AreBytes (suffix_values cs r)
unfolding suffix_values
AreBytes-suffix_values [] r hc hr = All-nil IsByte
AreBytes-suffix_values (c ∷ cs) r hc hr =
    All-cons IsByte _ _ (evaluate_lt (c ∷ cs) r hc hr) (AreBytes-suffix_values cs r (All-tail IsByte c cs hc) hr)

xor_middle : (p q s : ℕ) → bit_xor (bit_xor p q) (bit_xor s p) ≡ bit_xor s q
xor_middle p q s =
    ap (λ z. bit_xor z (bit_xor s p)) (xor_comm p q) ∙ xor-xor q p s p ∙ ap (bit_xor (bit_xor q s)) (xor_self p)
    ∙ xor_zero_r (bit_xor q s) ∙ xor_comm q s

-- the polynomial less its value at r is x + r times the quotient
pub factors : (c : ℕ) (cs : List ℕ) (x r : ℕ) → AreBytes cs → x < 256 → r < 256
    → bit_xor (evaluate (c ∷ cs) x) (evaluate (c ∷ cs) r) ≡ field_product (bit_xor x r) (evaluate (suffix_values cs r) x)
unfolding evaluate suffix_values
factors c [] x r hc hx hr =
    ap₂ (λ y z. bit_xor (bit_xor c y) (bit_xor c z)) (product-zero_right x) (product-zero_right r)
    ∙ xor_self (bit_xor c 0) ∙ sym (product-zero_right (bit_xor x r))
factors c (d ∷ ds) x r hc hx hr =
    let rest : AreBytes ds = All-tail IsByte d ds hc in
    let ex = evaluate (d ∷ ds) x in
    let er = evaluate (d ∷ ds) r in
    let es = evaluate (suffix_values ds r) x in
    let hes : es < 256 = evaluate_lt (suffix_values ds r) x (AreBytes-suffix_values ds r rest hr) hx in
    let hxr : bit_xor x r < 256 = xor_lt 8 x r hx hr in
    let left : bit_xor (bit_xor c (field_product x ex)) (bit_xor c (field_product r er))
    ≡ bit_xor (field_product x ex) (field_product r er) =
    xor-xor c (field_product x ex) c (field_product r er)
    ∙ ap (λ z. bit_xor z (bit_xor (field_product x ex) (field_product r er))) (xor_self c) in
    let right : field_product (bit_xor x r) (bit_xor er (field_product x es)) ≡ bit_xor (field_product x ex) (field_product r er) =
    product-sum_right (bit_xor x r) er (field_product x es)
    ∙ ap₂ bit_xor (product-sum_left x r er)
    (product_left_comm (bit_xor x r) x es hxr hx hes
    ∙ ap (field_product x) (sym (factors d ds x r rest hx hr))
    ∙ product-sum_right x ex er)
    ∙ xor_middle (field_product x er) (field_product r er) (field_product x ex) in
    left ∙ sym right

-- a polynomial is zero where its quotient is, and its value at r
zero_from_suffix_values : (cs : List ℕ) (r : ℕ) → AreZero (suffix_values cs r) → AreZero cs × (evaluate cs r ≡ 0)
unfolding evaluate suffix_values
zero_from_suffix_values [] r h = (All-nil (λ x. x ≡ 0), refl)
zero_from_suffix_values (c ∷ cs) r h =
    let value : evaluate (c ∷ cs) r ≡ 0 = All-head (λ x. x ≡ 0) _ _ h in
    let rest = zero_from_suffix_values cs r (All-tail (λ x. x ≡ 0) _ _ h) in
    let first : c ≡ 0 = sym (xor_zero_r c) ∙ ap (bit_xor c) (sym (ap (field_product r) rest.1 ∙ product-zero_right r)) ∙ value in
    (All-cons (λ x. x ≡ 0) c cs first rest.0, value)

-- the theorem
pub zero_from_roots : (cs points : List ℕ) → AreBytes cs → AreBytes points → AreDistinct points → length cs ≡ length points
    → All (λ p. evaluate cs p ≡ 0) points → AreZero cs
unfolding evaluate
zero_from_roots [] points hc hp distinct len roots = All-nil (λ x. x ≡ 0)
zero_from_roots (c ∷ cs) [] hc hp distinct len roots = absurd (omega arith)
zero_from_roots (c ∷ cs) (r ∷ rs) hc hp distinct len roots =
    let hcs : AreBytes cs = All-tail IsByte c cs hc in
    let hr : r < 256 = All-head IsByte r rs hp in
    let hrs : AreBytes rs = All-tail IsByte r rs hp in
    let at_r : evaluate (c ∷ cs) r ≡ 0 = All-head (λ p. evaluate (c ∷ cs) p ≡ 0) r rs roots in
    let at_rest : All (λ p. evaluate (c ∷ cs) p ≡ 0) rs = All-tail (λ p. evaluate (c ∷ cs) p ≡ 0) r rs roots in
    let apart : All (λ s. r ≢ s) rs = AllPairs-head (λ a b. a ≢ b) r rs distinct in
    let quotient_roots : All (λ s. evaluate (suffix_values cs r) s ≡ 0) rs =
    λ k d hk.
    let s = get_or rs k d in
    let hs : s < 256 = hrs k d hk in
    zero_from_product (bit_xor s r) (evaluate (suffix_values cs r) s)
    (pos_of_ne-zero (λ e. apart k d hk (sym (eq-xor_zero s r e))))
    (xor_lt 8 s r hs hr)
    (evaluate_lt (suffix_values cs r) s (AreBytes-suffix_values cs r hcs hr) hs)
    (sym (factors c cs s r hcs hs hr) ∙ ap₂ bit_xor (at_rest k d hk) at_r) in
    let parts = zero_from_suffix_values cs r
    (zero_from_roots (suffix_values cs r) rs (AreBytes-suffix_values cs r hcs hr) hrs (AllPairs-tail (λ a b. a ≢ b) r rs distinct)
    (length-suffix_values cs r ∙ omega arith) quotient_roots) in
    let first : c ≡ 0 = sym (xor_zero_r c) ∙ ap (bit_xor c) (sym (ap (field_product r) parts.1 ∙ product-zero_right r)) ∙ at_r in
    All-cons (λ x. x ≡ 0) c cs first parts.0

pub length-sum_of : (cs ds : List ℕ) → length ds ≤ length cs → length (sum_of cs ds) ≡ length cs
unfolding sum_of
length-sum_of [] [] h = refl
length-sum_of [] (d ∷ ds) h = absurd (omega arith)
length-sum_of (c ∷ cs) [] h = refl
length-sum_of (c ∷ cs) (d ∷ ds) h = ap suc (length-sum_of cs ds (omega arith))

pub AreBytes-sum_of : (cs ds : List ℕ) → AreBytes cs → AreBytes ds → AreBytes (sum_of cs ds)
unfolding sum_of
AreBytes-sum_of [] ds hc hd = hd
AreBytes-sum_of (c ∷ cs) [] hc hd = hc
AreBytes-sum_of (c ∷ cs) (d ∷ ds) hc hd =
    All-cons IsByte _ _ (xor_lt 8 c d (All-head IsByte c cs hc) (All-head IsByte d ds hd))
    (AreBytes-sum_of cs ds (All-tail IsByte c cs hc) (All-tail IsByte d ds hd))

same_from_sum : (cs ds : List ℕ) → length cs ≡ length ds → AreZero (sum_of cs ds) → cs ≡ ds
unfolding sum_of
same_from_sum [] [] e h = refl
same_from_sum [] (d ∷ ds) e h = absurd (omega arith)
same_from_sum (c ∷ cs) [] e h = absurd (omega arith)
same_from_sum (c ∷ cs) (d ∷ ds) e h =
    ap₂ (λ x xs. x ∷ xs) (eq-xor_zero c d (All-head (λ x. x ≡ 0) _ _ h))
    (same_from_sum cs ds (omega arith) (All-tail (λ x. x ≡ 0) _ _ h))

-- two polynomials with as many coefficients as there are points, at which they agree, are equal
pub same_from_values : (cs ds points : List ℕ) → AreBytes cs → AreBytes ds → AreBytes points → AreDistinct points
    → length cs ≡ length points → length ds ≡ length points
    → All (λ p. evaluate cs p ≡ evaluate ds p) points → cs ≡ ds
same_from_values cs ds points hc hd hp distinct lc ld agree =
    same_from_sum cs ds (omega arith)
    (zero_from_roots (sum_of cs ds) points (AreBytes-sum_of cs ds hc hd) hp distinct (length-sum_of cs ds (omega arith) ∙ lc)
    (λ k d hk. evaluate-sum_of cs ds _ ∙ ap (bit_xor (evaluate cs (get_or points k d))) (sym (agree k d hk))
    ∙ xor_self (evaluate cs (get_or points k d))))
