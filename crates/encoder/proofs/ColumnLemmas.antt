-- The bytes b of a value's blocks, as the coefficients of a polynomial: its value at x is byte b of the fragment at x.
use Rattle.std.proofs.Common.{◌≡◌, ℕ, ◌+◌, ◌*◌, ◌<◌, List, length, get_or, map}
use Rattle.std.proofs.Common.{sym, ap, subst, ◌∙◌, arith, lit<, ⊎_elim}
use Rattle.std.specs.List.{range_with_len}
use Rattle.std.proofs.lemmas.Bool.{cases_lt}
use Rattle.std.proofs.lemmas.List.{get_or_past}
use Rattle.std.proofs.lemmas.List.Elements.{All-from_get_or}
use Rattle.std.proofs.lemmas.List.FromFn.{length-map-range_with_len, get_or-map-range_with_len}
use Rattle.gf256.specs.Field.{field_product, field_power, field_sum}
use Rattle.gf256.specs.Polynomial.{AreBytes, evaluate}
use Rattle.std.proofs.lemmas.Grind.{same_number_lists}
use Rattle.gf256.proofs.FieldSumLemmas.{evaluate-field_sum, field_sum_same}
use Rattle.gf256.proofs.RootLemmas.{evaluate_lt}
use Rattle.encoder.specs.Fragment.{fragment_len, fragment_byte, fragment}

-- byte b of each of k blocks of f bytes
pub column : List ℕ → ℕ → ℕ → ℕ → List ℕ
column value k f b = map (λ j. get_or value (j * f + b) 0) (range_with_len 0 k)

pub length-column : (value : List ℕ) (k f b : ℕ) → length (column value k f b) ≡ k
unfolding column
length-column value k f b = length-map-range_with_len (λ j. get_or value (j * f + b) 0) 0 k

pub get_or-column : (value : List ℕ) (k f b j : ℕ) → j < k → get_or (column value k f b) j 0 ≡ get_or value (j * f + b) 0
unfolding column
get_or-column value k f b j hj = get_or-map-range_with_len (λ j. get_or value (j * f + b) 0) 0 k j j 0 hj (omega arith)

byte_at : (value : List ℕ) (n : ℕ) → AreBytes value → get_or value n 0 < 256
byte_at value n bytes =
    ⊎_elim (λ low. bytes n 0 low) (λ high. subst (λ x. x < 256) (sym (get_or_past value n 0 high)) (lit< tt)) (cases_lt n (length value))

pub AreBytes-column : (value : List ℕ) (k f b : ℕ) → AreBytes value → AreBytes (column value k f b)
AreBytes-column value k f b bytes =
    All-from_get_or (λ x. x < 256) (column value k f b) 0
    (λ j hj. subst (λ x. x < 256) (sym (get_or-column value k f b j (omega (arith, length-column value k f b)))) (byte_at value
    (j * f + b) bytes))

pub fragment_byte-column : (value : List ℕ) (k x b : ℕ) → AreBytes value → x < 256
    → fragment_byte value k x b ≡ evaluate (column value k (fragment_len k (length value)) b) x
unfolding fragment_byte
fragment_byte-column value k x b bytes hx =
    let f = fragment_len k (length value) in
    let cs = column value k f b in
    let term : ℕ → ℕ = λ j. field_product (field_power x j) (get_or cs j 0) in
    field_sum_same k (λ j. field_product (field_power x j) (get_or value (j * f + b) 0)) term
    (λ j hj. ap (field_product (field_power x j)) (sym (get_or-column value k f b j hj)))
    ∙ ap (λ n. field_sum n term) (sym (length-column value k f b))
    ∙ sym (evaluate-field_sum cs x (AreBytes-column value k f b bytes) hx)

pub length-fragment : (value : List ℕ) (k x : ℕ) → length (fragment value k x) ≡ fragment_len k (length value)
unfolding fragment
length-fragment value k x = length-map-range_with_len (fragment_byte value k x) 0 (fragment_len k (length value))

pub get_or-fragment : (value : List ℕ) (k x b : ℕ) → b < fragment_len k (length value)
    → get_or (fragment value k x) b 0 ≡ fragment_byte value k x b
unfolding fragment
get_or-fragment value k x b hb = get_or-map-range_with_len (fragment_byte value k x) 0 (fragment_len k (length value)) b b 0 hb
    (omega arith)

-- each byte of a fragment is a byte
pub AreBytes-fragment : (value : List ℕ) (k x : ℕ) → AreBytes value → x < 256 → AreBytes (fragment value k x)
AreBytes-fragment value k x bytes hx =
    All-from_get_or (λ y. y < 256) (fragment value k x) 0
    (λ b hb.
    let f = fragment_len k (length value) in
    let within : b < f = omega (arith, length-fragment value k x) in
    subst (λ y. y < 256) (sym (get_or-fragment value k x b within ∙ fragment_byte-column value k x b bytes hx))
    (evaluate_lt (column value k f b) x (AreBytes-column value k f b bytes) hx))

-- two values with the same bytes, past their ends too, and fragments of one length have the same fragments
pub fragment_same : (v w : List ℕ) (k x : ℕ) → fragment_len k (length v) ≡ fragment_len k (length w)
    → ((n : ℕ) → get_or v n 0 ≡ get_or w n 0) → fragment v k x ≡ fragment w k x
unfolding fragment_byte
fragment_same v w k x same_len same =
    same_number_lists (fragment v k x) (fragment w k x) (length-fragment v k x ∙ same_len ∙ sym (length-fragment w k x))
    (λ b hb.
    let low : b < fragment_len k (length v) = omega (arith, length-fragment v k x) in
    get_or-fragment v k x b low
    ∙ field_sum_same k
    (λ j. field_product (field_power x j) (get_or v (j * fragment_len k (length v) + b) 0))
    (λ j. field_product (field_power x j) (get_or w (j * fragment_len k (length w) + b) 0))
    (λ j hj. ap (field_product (field_power x j)) (same (j * fragment_len k (length v) + b) ∙ ap (λ f. get_or w (j * f + b) 0) same_len))
    ∙ sym (get_or-fragment w k x b (subst (λ f. b < f) same_len low)))
