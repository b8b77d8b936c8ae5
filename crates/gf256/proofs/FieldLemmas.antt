-- The laws of the field.
use Rattle.std.proofs.Common.{◌≡◌, ℕ, zero, suc, ◌+◌, ◌*◌, ◌^◌, ◌<◌, bit_xor, refl, sym, ap, ap₂, ◌∙◌}
use Rattle.std.proofs.Common.{true, Bool, eqb, eqb-true, ltb, ltb-true, arith, lit<, zero-add, suc-add}
use Rattle.std.specs.Int.{bit_at}
use Rattle.std.specs.Int.Bits.{xor_lt}
use Rattle.std.proofs.lemmas.Nat.Bits.{bit_at-lt}
use Rattle.gf256.specs.Field.{modulus, field_product, field_power, remainder, polynomial_product}
use Rattle.gf256.proofs.AdditiveFunctionLemmas.{IsAdditive, IsAdditive-none, IsAdditive-same, IsAdditive-xor, IsAdditive-compose}
use Rattle.gf256.proofs.AdditiveFunctionLemmas.{IsAdditive-bit_times, IsAdditive-times_bit, IsAdditive-times_pow}
use Rattle.gf256.proofs.AdditiveFunctionLemmas.{IsAdditive-zero, IsAdditive-unique, polynomial_ind, all_below, all_below-at}

polynomial_product_left : (n b : ℕ) → IsAdditive (λ a. polynomial_product n a b)
unfolding polynomial_product
polynomial_product_left zero b = IsAdditive-none
polynomial_product_left (suc n) b =
    IsAdditive-xor (λ a. polynomial_product n a b) (λ a. bit_at a n * (b * 2 ^ n)) (polynomial_product_left n b)
    (IsAdditive-bit_times n (b * 2 ^ n))

polynomial_product_right : (n a : ℕ) → IsAdditive (λ b. polynomial_product n a b)
unfolding polynomial_product
polynomial_product_right zero a = IsAdditive-none
polynomial_product_right (suc n) a =
    IsAdditive-xor (λ b. polynomial_product n a b) (λ b. bit_at a n * (b * 2 ^ n)) (polynomial_product_right n a)
    (IsAdditive-compose (λ b. bit_at a n * b) (λ b. b * 2 ^ n) (IsAdditive-times_bit (bit_at a n) (bit_at-lt a n)) (IsAdditive-times_pow n))

IsAdditive-remainder : (n : ℕ) → IsAdditive (remainder n)
unfolding remainder
IsAdditive-remainder zero = IsAdditive-same
IsAdditive-remainder (suc n) =
    IsAdditive-compose (remainder n) (λ p. bit_xor p (bit_at p (8 + n) * (modulus * 2 ^ n))) (IsAdditive-remainder n)
    (IsAdditive-xor (λ p. p) (λ p. bit_at p (8 + n) * (modulus * 2 ^ n)) IsAdditive-same (IsAdditive-bit_times (8 + n) (modulus * 2 ^ n)))

pub field_product_left : (b : ℕ) → IsAdditive (λ a. field_product a b)
unfolding field_product
field_product_left b =
    IsAdditive-compose (remainder 7) (λ a. polynomial_product 8 a b) (IsAdditive-remainder 7) (polynomial_product_left 8 b)

pub field_product_right : (a : ℕ) → IsAdditive (λ b. field_product a b)
unfolding field_product
field_product_right a =
    IsAdditive-compose (remainder 7) (λ b. polynomial_product 8 a b) (IsAdditive-remainder 7) (polynomial_product_right 8 a)

-- the laws at the powers x^i, by computing
commutes : all_below 8 (λ i. all_below 8 (λ j. eqb (field_product (2 ^ i) (2 ^ j)) (field_product (2 ^ j) (2 ^ i)))) ≡ true
unfolding field_product remainder polynomial_product
commutes = refl

-- the test of one law at three powers x^i
abbrev associates_at : ℕ → ℕ → ℕ → Bool
associates_at i j k = eqb (field_product (field_product (2 ^ i) (2 ^ j)) (2 ^ k)) (field_product (2 ^ i) (field_product (2 ^ j) (2 ^ k)))

associates : all_below 8 (λ i. all_below 8 (λ j. all_below 8 (associates_at i j))) ≡ true
unfolding field_product remainder polynomial_product
associates = refl

bounded : all_below 8 (λ i. all_below 8 (λ j. ltb (field_product (2 ^ i) (2 ^ j)) 256)) ≡ true
unfolding field_product remainder polynomial_product
bounded = refl

has_one : all_below 8 (λ i. eqb (field_product 1 (2 ^ i)) (2 ^ i)) ≡ true
unfolding field_product remainder polynomial_product
has_one = refl

-- a test of two powers x^i, at each two
both_below : (n : ℕ) (test : ℕ → ℕ → Bool) → all_below n (λ i. all_below n (test i)) ≡ true → (i j : ℕ) → i < n → j < n → test i j ≡ true
both_below n test h i j hi hj = all_below-at n (test i) (all_below-at n (λ i. all_below n (test i)) h i hi) j hj

pub product-zero_left : (a : ℕ) → field_product 0 a ≡ 0
product-zero_left a = IsAdditive-zero (λ x. field_product x a) (field_product_left a)

pub product-zero_right : (a : ℕ) → field_product a 0 ≡ 0
product-zero_right a = IsAdditive-zero (field_product a) (field_product_right a)

pub product-sum_left : (a b c : ℕ) → field_product (bit_xor a b) c ≡ bit_xor (field_product a c) (field_product b c)
product-sum_left a b c = (field_product_left c).at_sum a b

pub product-sum_right : (a b c : ℕ) → field_product a (bit_xor b c) ≡ bit_xor (field_product a b) (field_product a c)
product-sum_right a b c = (field_product_right a).at_sum b c

pub product_lt : (a b : ℕ) → a < 256 → b < 256 → field_product a b < 256
product_lt a b ha hb =
    polynomial_ind (λ x. field_product x b < 256) (rw (product-zero_left b) (omega arith))
    (λ x y hx hy. rw (product-sum_left x y b) (xor_lt 8 _ _ hx hy)) 8
    (λ i hi. polynomial_ind (λ y. field_product (2 ^ i) y < 256) (rw (product-zero_right (2 ^ i)) (omega arith))
    (λ x y hx hy. rw (product-sum_right (2 ^ i) x y) (xor_lt 8 _ _ hx hy)) 8
    (λ j hj. ltb-true _ _ (both_below 8 (λ i j. ltb (field_product (2 ^ i) (2 ^ j)) 256) bounded i j hi hj))
    b hb)
    a ha

pub product_comm : (a b : ℕ) → a < 256 → b < 256 → field_product a b ≡ field_product b a
product_comm a b ha hb =
    IsAdditive-unique (λ x. field_product x b) (λ x. field_product b x) (field_product_left b) (field_product_right b) 8
    (λ i hi. IsAdditive-unique (λ y. field_product (2 ^ i) y)
    (λ y. field_product y (2 ^ i)) (field_product_right (2 ^ i)) (field_product_left (2 ^ i)) 8
    (λ j hj. eqb-true _ _ (both_below 8 (λ i j. eqb (field_product (2 ^ i) (2 ^ j)) (field_product (2 ^ j) (2 ^ i))) commutes i j hi hj))
    b hb)
    a ha

pub product_assoc : (a b c : ℕ) → a < 256 → b < 256 → c < 256 → field_product (field_product a b) c ≡ field_product a (field_product b c)
product_assoc a b c ha hb hc =
    IsAdditive-unique (λ x. field_product (field_product x b) c) (λ x. field_product x (field_product b c))
    (IsAdditive-compose (λ x. field_product x c) (λ x. field_product x b) (field_product_left c) (field_product_left b))
    (field_product_left (field_product b c)) 8
    (λ i hi. IsAdditive-unique (λ y. field_product (field_product (2 ^ i) y) c) (λ y. field_product (2 ^ i) (field_product y c))
    (IsAdditive-compose (λ x. field_product x c) (λ y. field_product (2 ^ i) y) (field_product_left c) (field_product_right (2 ^ i)))
    (IsAdditive-compose (λ x. field_product (2 ^ i) x) (λ y. field_product y c) (field_product_right (2 ^ i)) (field_product_left c)) 8
    (λ j hj. IsAdditive-unique (λ z. field_product (field_product (2 ^ i) (2 ^ j)) z) (λ z. field_product (2 ^ i) (field_product (2 ^ j) z))
    (field_product_right (field_product (2 ^ i) (2 ^ j)))
    (IsAdditive-compose (λ x. field_product (2 ^ i) x) (λ z. field_product (2 ^ j) z)
    (field_product_right (2 ^ i)) (field_product_right (2 ^ j))) 8
    (λ k hk. eqb-true _ _
    (all_below-at 8 (associates_at i j) (both_below 8 (λ i j. all_below 8 (associates_at i j)) associates i j hi hj) k hk))
    c hc)
    b hb)
    a ha

pub product-one_left : (a : ℕ) → a < 256 → field_product 1 a ≡ a
product-one_left a ha =
    IsAdditive-unique (field_product 1) (λ x. x) (field_product_right 1) IsAdditive-same 8
    (λ i hi. eqb-true _ _ (all_below-at 8 (λ i. eqb (field_product 1 (2 ^ i)) (2 ^ i)) has_one i hi))
    a ha

pub product-one_right : (a : ℕ) → a < 256 → field_product a 1 ≡ a
product-one_right a ha = product_comm a 1 ha (lit< tt) ∙ product-one_left a ha

pub product_left_comm : (a b c : ℕ) → a < 256 → b < 256 → c < 256 →
    field_product a (field_product b c) ≡ field_product b (field_product a c)
product_left_comm a b c ha hb hc =
    sym (product_assoc a b c ha hb hc) ∙ ap (λ x. field_product x c) (product_comm a b ha hb) ∙ product_assoc b a c hb ha hc

pub power_lt : (a e : ℕ) → a < 256 → field_power a e < 256
unfolding field_power
power_lt a zero ha = lit< tt
power_lt a (suc e) ha = product_lt a (field_power a e) ha (power_lt a e ha)

pub power-zero : (a : ℕ) → field_power a 0 ≡ 1
unfolding field_power
power-zero a = refl

pub power-suc : (a e : ℕ) → field_power a (suc e) ≡ field_product a (field_power a e)
unfolding field_power
power-suc a e = refl

pub power-add : (a m n : ℕ) → a < 256 → field_power a (m + n) ≡ field_product (field_power a m) (field_power a n)
power-add a zero n ha =
    ap (field_power a) (zero-add n)
    ∙ sym (ap (λ x. field_product x (field_power a n)) (power-zero a) ∙ product-one_left (field_power a n) (power_lt a n ha))
power-add a (suc m) n ha =
    ap (field_power a) (suc-add m n) ∙ power-suc a (m + n) ∙ ap (field_product a) (power-add a m n ha)
    ∙ sym (product_assoc a (field_power a m) (field_power a n) ha (power_lt a m ha) (power_lt a n ha))
    ∙ ap (λ x. field_product x (field_power a n)) (sym (power-suc a m))

pub power-one : (a : ℕ) → a < 256 → field_power a 1 ≡ a
power-one a ha = power-suc a 0 ∙ ap (field_product a) (power-zero a) ∙ product-one_right a ha

pub power-square : (a n : ℕ) → a < 256 → field_power (field_product a a) n ≡ field_power a (n * 2)
power-square a zero ha = power-zero (field_product a a) ∙ sym (power-zero a)
power-square a (suc n) ha =
    let e : suc n * 2 ≡ suc (suc (n * 2)) = omega arith in
    power-suc (field_product a a) n ∙ ap (field_product (field_product a a)) (power-square a n ha)
    ∙ product_assoc a a (field_power a (n * 2)) ha ha (power_lt a (n * 2) ha)
    ∙ ap (field_product a) (sym (power-suc a (n * 2))) ∙ sym (power-suc a (suc (n * 2))) ∙ ap (field_power a) (sym e)

-- the powers a^2, a^4, .., a^128, multiplied
chain : ℕ → ℕ
chain a =
    let a2 = field_product a a in
    let a4 = field_product a2 a2 in
    let a8 = field_product a4 a4 in
    let a16 = field_product a8 a8 in
    let a32 = field_product a16 a16 in
    let a64 = field_product a32 a32 in
    let a128 = field_product a64 a64 in
    field_product a2 (field_product a4 (field_product a8 (field_product a16 (field_product a32 (field_product a64 a128)))))

inverts : all_below 255 (λ i. eqb (field_product (chain (suc i)) (suc i)) 1) ≡ true
unfolding field_product remainder polynomial_product chain
inverts = refl

-- the inverse of an element that is not zero
unfoldable pub inverse : ℕ → ℕ
inverse a = field_power a 254

pub inverse_lt : (a : ℕ) → a < 256 → inverse a < 256
unfolding inverse
inverse_lt a ha = power_lt a 254 ha

inverse-chain : (a : ℕ) → a < 256 → inverse a ≡ chain a
unfolding inverse chain
inverse-chain a ha =
    let two : field_power a 2 ≡ field_product a a = power-suc a 1 ∙ ap (field_product a) (power-one a ha) in
    let twice : (n : ℕ) → field_power a (n + n) ≡ field_product (field_power a n) (field_power a n) = λ n. power-add a n n ha in
    let e4 = twice 2 ∙ ap (λ x. field_product x x) two in
    let e8 = twice 4 ∙ ap (λ x. field_product x x) e4 in
    let e16 = twice 8 ∙ ap (λ x. field_product x x) e8 in
    let e32 = twice 16 ∙ ap (λ x. field_product x x) e16 in
    let e64 = twice 32 ∙ ap (λ x. field_product x x) e32 in
    let e128 = twice 64 ∙ ap (λ x. field_product x x) e64 in
    power-add a 2 252 ha ∙ ap₂ field_product two
    (power-add a 4 248 ha ∙ ap₂ field_product e4
    (power-add a 8 240 ha ∙ ap₂ field_product e8
    (power-add a 16 224 ha ∙ ap₂ field_product e16
    (power-add a 32 192 ha ∙ ap₂ field_product e32
    (power-add a 64 128 ha ∙ ap₂ field_product e64 e128)))))

pub product-inverse : (a : ℕ) → 0 < a → a < 256 → field_product (inverse a) a ≡ 1
product-inverse zero some ha = absurd (omega arith)
product-inverse (suc i) some ha =
    ap (λ x. field_product x (suc i)) (inverse-chain (suc i) ha)
    ∙ eqb-true _ _ (all_below-at 255 (λ i. eqb (field_product (chain (suc i)) (suc i)) 1) inverts i (omega arith))

-- a factor that is not zero cancels
pub product_left_cancel : (a b c : ℕ) → 0 < a → a < 256 → b < 256 → c < 256 → field_product a b ≡ field_product a c → b ≡ c
product_left_cancel a b c some ha hb hc same =
    let cancels : (x : ℕ) → x < 256 → field_product (inverse a) (field_product a x) ≡ x =
    λ x hx. sym (product_assoc (inverse a) a x (inverse_lt a ha) ha hx) ∙ ap (λ y. field_product y x) (product-inverse a some ha)
    ∙ product-one_left x hx in
    sym (cancels b hb) ∙ ap (field_product (inverse a)) same ∙ cancels c hc

-- there are no zero divisors
pub zero_from_product : (a b : ℕ) → 0 < a → a < 256 → b < 256 → field_product a b ≡ 0 → b ≡ 0
zero_from_product a b some ha hb none = product_left_cancel a b 0 some ha hb (lit< tt) (none ∙ sym (product-zero_right a))
