-- States shifted by powers of x.
use Rattle.std.proofs.Common.{◌≡◌, ℕ, zero, suc, ◌+◌, ◌*◌, ◌/◌, ◌%◌, ◌^◌, ◌<◌, bit_xor}
use Rattle.std.proofs.Common.{refl, sym, ap, ap₂, ◌∙◌, arith, zero-mul}
use Rattle.std.specs.Int.{bit_at}
use Rattle.std.specs.Int.Bits.{xor_assoc, xor_comm, xor_zero_r, xor_shifted}
use Rattle.std.proofs.lemmas.Nat.{xor_shr, xor_lt, div-add-mod'}
use Rattle.std.proofs.lemmas.Nat.Bits.{bit_at-lt}
use Rattle.gf256.proofs.AdditiveFunctionLemmas.{IsAdditive, IsAdditive-xor, IsAdditive-bit_times, IsAdditive-same}
use Rattle.gf256.proofs.AdditiveFunctionLemmas.{IsAdditive-compose, eq-xor_zero}
use Rattle.node_log.specs.Crc32c.{castagnoli, shifted, shifted_by, after_byte}

pub zero_xor : (a : ℕ) → bit_xor 0 a ≡ a
zero_xor a = xor_comm 0 a ∙ xor_zero_r a

half : IsAdditive (λ a. a / 2)
half = record { at_sum = λ a b. xor_shr a b 1 }

IsAdditive-shifted : IsAdditive shifted
unfolding shifted
IsAdditive-shifted = IsAdditive-xor (λ a. a / 2) (λ a. bit_at a 0 * castagnoli) half (IsAdditive-bit_times 0 castagnoli)

pub IsAdditive-shifted_by : (n : ℕ) → IsAdditive (shifted_by n)
unfolding shifted_by
IsAdditive-shifted_by zero = IsAdditive-same
IsAdditive-shifted_by (suc n) = IsAdditive-compose shifted (shifted_by n) IsAdditive-shifted (IsAdditive-shifted_by n)

-- ---- a state whose lowest bits are not set

shifted_even : (x : ℕ) → shifted (x * 2) ≡ x
unfolding shifted
shifted_even x =
    let even : bit_at (x * 2) 0 ≡ 0 = omega arith in
    let left : x * 2 / 2 ≡ x = omega arith in
    ap₂ bit_xor left (ap (λ (b : ℕ). b * castagnoli) even ∙ zero-mul castagnoli) ∙ xor_zero_r x

one_more : (n y x : ℕ) → shifted_by n y ≡ x * 2 → shifted_by (suc n) y ≡ x
unfolding shifted_by
one_more n y x e = ap shifted e ∙ shifted_even x

none : (y : ℕ) → shifted_by 0 y ≡ y
unfolding shifted_by
none y = refl

shifted_by_byte : (x : ℕ) → shifted_by 8 (x * 256) ≡ x
shifted_by_byte x =
    let y = x * 256 in
    let e0 : shifted_by 0 y ≡ x * 128 * 2 = omega (arith, none y) in
    let e1 : shifted_by 1 y ≡ x * 64 * 2 = omega (arith, one_more 0 y (x * 128) e0) in
    let e2 : shifted_by 2 y ≡ x * 32 * 2 = omega (arith, one_more 1 y (x * 64) e1) in
    let e3 : shifted_by 3 y ≡ x * 16 * 2 = omega (arith, one_more 2 y (x * 32) e2) in
    let e4 : shifted_by 4 y ≡ x * 8 * 2 = omega (arith, one_more 3 y (x * 16) e3) in
    let e5 : shifted_by 5 y ≡ x * 4 * 2 = omega (arith, one_more 4 y (x * 8) e4) in
    let e6 : shifted_by 6 y ≡ x * 2 * 2 = omega (arith, one_more 5 y (x * 4) e5) in
    one_more 7 y x (one_more 6 y (x * 2) e6)

-- a state is its lowest byte and the rest
split : (s : ℕ) → s ≡ bit_xor (s / 256 * 256) (s % 256)
split s =
    let low : s % 256 < 2 ^ 8 = omega arith in
    let whole : s / 256 * 256 + s % 256 ≡ s = div-add-mod' s 256 in
    sym whole ∙ sym (xor_shifted (s / 256) 8 (s % 256) low)

-- a byte reaches the lowest byte of a state alone, and the rest moves down
pub after_byte_split : (s b : ℕ) → after_byte s b ≡ bit_xor (s / 256) (shifted_by 8 (bit_xor (s % 256) b))
unfolding after_byte
after_byte_split s b =
    let high = s / 256 * 256 in
    let low = s % 256 in
    ap (λ (t : ℕ). shifted_by 8 (bit_xor t b)) (split s)
    ∙ ap (shifted_by 8) (xor_assoc high low b)
    ∙ (IsAdditive-shifted_by 8).at_sum high (bit_xor low b)
    ∙ ap (λ (t : ℕ). bit_xor t (shifted_by 8 (bit_xor low b))) (shifted_by_byte (s / 256))

-- ---- a state that is shifted to zero is zero

bits_times_lt : (x : ℕ) → x < 2 → x * castagnoli < 2 ^ 32
bits_times_lt zero h = omega arith
bits_times_lt (suc zero) h = omega arith
bits_times_lt (suc (suc x)) h = absurd (omega arith)

shifted_lt : (s : ℕ) → s < 2 ^ 32 → shifted s < 2 ^ 32
unfolding shifted
shifted_lt s h = xor_lt 32 (s / 2) (bit_at s 0 * castagnoli) (omega arith) (bits_times_lt (bit_at s 0) (bit_at-lt s 0))

pub shifted_by_lt : (n s : ℕ) → s < 2 ^ 32 → shifted_by n s < 2 ^ 32
unfolding shifted_by
shifted_by_lt zero s h = h
shifted_by_lt (suc n) s h = shifted_lt (shifted_by n s) (shifted_by_lt n s h)

low_is_zero : (x half s : ℕ) → x < 2 → half < 2 ^ 31 → half ≡ x * castagnoli → s ≡ half * 2 + x → s ≡ 0
low_is_zero zero half s hx hh e is = omega arith
low_is_zero (suc zero) half s hx hh e is = absurd (omega arith)
low_is_zero (suc (suc x)) half s hx hh e is = absurd (omega arith)

shifted_zero : (s : ℕ) → s < 2 ^ 32 → shifted s ≡ 0 → s ≡ 0
unfolding shifted
shifted_zero s h e =
    low_is_zero (bit_at s 0) (s / 2) s (bit_at-lt s 0) (omega arith) (eq-xor_zero (s / 2) (bit_at s 0 * castagnoli) e) (omega arith)

pub shifted_by_zero : (n s : ℕ) → s < 2 ^ 32 → shifted_by n s ≡ 0 → s ≡ 0
unfolding shifted_by
shifted_by_zero zero s h e = e
shifted_by_zero (suc n) s h e = shifted_by_zero n s h (shifted_zero (shifted_by n s) (shifted_by_lt n s h) e)
