-- The state after the first of some bytes, from zero on, and sums at the five powers.
use Rattle.std.proofs.Common.{◌≡◌, ℕ, zero, suc, ◌+◌, ◌^◌, ◌<◌, ◌≤◌, List, [], ◌∷◌, length, get_or, bit_xor}
use Rattle.std.proofs.Common.{refl, sym, ap, ap₂, ◌∙◌, arith, true, eqb}
use Rattle.std.specs.Int.Bits.{xor_comm, xor_zero_r}
use Rattle.std.proofs.lemmas.Bool.{eqb-true}
use Rattle.gf256.proofs.AdditiveFunctionLemmas.{IsAdditive, IsAdditive-zero, IsAdditive-same, IsAdditive-compose, IsAdditive-unique}
use Rattle.gf256.proofs.AdditiveFunctionLemmas.{xor-xor, all_below, all_below-at}
use Rattle.node_log.specs.Crc32c.{shifted, shifted_by, after_byte, after_bytes}
use Rattle.node_log.specs.Folding.{by_bytes, over_powers, run}
use Rattle.node_log.proofs.ShiftLemmas.{zero_xor, IsAdditive-shifted_by}
use Rattle.node_log.proofs.StateLemmas.{peel_zero, term}

-- a state that is shifted by one byte
abbrev pub by_one : ℕ → ℕ
by_one state = shifted_by 8 state

-- a shift by bytes keeps sums
pub IsAdditive-by_bytes : (n : ℕ) → IsAdditive (by_bytes n)
unfolding by_bytes
IsAdditive-by_bytes zero = IsAdditive-same
IsAdditive-by_bytes (suc n) = IsAdditive-compose (by_bytes n) (shifted_by 8) (IsAdditive-by_bytes n) (IsAdditive-shifted_by 8)

-- the last shift can be made first
pub by_one_last : (n s : ℕ) → by_bytes n (by_one s) ≡ by_one (by_bytes n s)
unfolding by_bytes
by_one_last zero s = refl
by_one_last (suc n) s = by_one_last n (by_one s)

-- shifts one after another
pub by_sum : (m n s : ℕ) → by_bytes m (by_bytes n s) ≡ by_bytes (n + m) s
unfolding by_bytes
by_sum m zero s = let e : m ≡ 0 + m = omega arith in ap (λ (k : ℕ). by_bytes k s) e
by_sum m (suc n) s =
    let e : suc (n + m) ≡ suc n + m = omega arith in
    by_sum m n (by_one s) ∙ ap (λ (k : ℕ). by_bytes k s) e

-- the state after a sum of bytes, from a sum of states on
pub after_sum_of : (a b x y : ℕ) → after_byte (bit_xor a b) (bit_xor x y) ≡ bit_xor (after_byte a x) (after_byte b y)
unfolding after_byte
after_sum_of a b x y = ap (shifted_by 8) (xor-xor a b x y) ∙ (IsAdditive-shifted_by 8).at_sum (bit_xor a x) (bit_xor b y)

-- a byte is added before the shift
pub after_is : (s b : ℕ) → after_byte s b ≡ bit_xor (by_one s) (by_one b)
unfolding after_byte
after_is s b = (IsAdditive-shifted_by 8).at_sum s b

-- a zero byte shifts the state
pub after_zero : (s : ℕ) → after_byte s 0 ≡ by_one s
unfolding after_byte
after_zero s = ap (shifted_by 8) (xor_zero_r s)

-- ---- runs

-- a run of the sums
pub run_sum : (f g : ℕ → ℕ) (n : ℕ) → run (λ (i : ℕ). bit_xor (f i) (g i)) n ≡ bit_xor (run f n) (run g n)
run_sum f g zero = refl
run_sum f g (suc n) =
    ap (λ (t : ℕ). after_byte t (bit_xor (f n) (g n))) (run_sum f g n) ∙ after_sum_of (run f n) (run g n) (f n) (g n)

-- a run of the same bytes
pub run_same : (f g : ℕ → ℕ) (n : ℕ) → ((i : ℕ) → i < n → f i ≡ g i) → run f n ≡ run g n
run_same f g zero same = refl
run_same f g (suc n) same = ap₂ after_byte (run_same f g n (λ i h. same i (omega arith))) (same n (omega arith))

-- the first byte is shifted by all that follow
pub run_first : (f : ℕ → ℕ) (n : ℕ) → run f (suc n) ≡ bit_xor (by_bytes (suc n) (f 0)) (run (λ (i : ℕ). f (suc i)) n)
unfolding by_bytes
run_first f zero =
    after_is 0 (f 0) ∙ ap (λ (t : ℕ). bit_xor t (by_one (f 0))) (IsAdditive-zero by_one (IsAdditive-shifted_by 8))
    ∙ xor_comm 0 (by_one (f 0))
run_first f (suc n) =
    ap (λ (t : ℕ). after_byte t (f (suc n))) (run_first f n)
    ∙ ap (after_byte (bit_xor (by_bytes (suc n) (f 0)) (run (λ (i : ℕ). f (suc i)) n))) (sym (zero_xor (f (suc n))))
    ∙ after_sum_of (by_bytes (suc n) (f 0)) (run (λ (i : ℕ). f (suc i)) n) 0 (f (suc n))
    ∙ ap (λ (t : ℕ). bit_xor t (run (λ (i : ℕ). f (suc i)) (suc n))) (after_zero (by_bytes (suc n) (f 0)) ∙ sym (by_one_last (suc n) (f 0)))

-- zeros behind a run shift it
pub run_zeros : (f : ℕ → ℕ) (n m : ℕ) → ((i : ℕ) → n ≤ i → i < m + n → f i ≡ 0) → run f (m + n) ≡ by_bytes m (run f n)
unfolding by_bytes
run_zeros f n zero none = let e : 0 + n ≡ n = omega arith in ap (run f) e
run_zeros f n (suc m) none =
    let e : suc m + n ≡ suc (m + n) = omega arith in
    ap (run f) e
    ∙ after_is (run f (m + n)) (f (m + n))
    ∙ ap₂ (λ (s t : ℕ). bit_xor (by_one s) (by_one t)) (run_zeros f n m (λ i from h. none i from (omega arith)))
    (none (m + n) (omega arith) (omega arith))
    ∙ ap (bit_xor (by_one (by_bytes m (run f n)))) (IsAdditive-zero by_one (IsAdditive-shifted_by 8))
    ∙ xor_zero_r (by_one (by_bytes m (run f n)))
    ∙ sym (by_one_last m (run f n))

-- the bytes of a list
pub run_of : (bytes : List ℕ) → after_bytes 0 bytes ≡ run (λ (i : ℕ). get_or bytes i 0) (length bytes)
unfolding by_bytes
run_of [] = refl
run_of (b ∷ bytes) =
    peel_zero b bytes
    ∙ ap (λ (t : ℕ). bit_xor t (term (length bytes) b)) (run_of bytes)
    ∙ xor_comm (run (λ (i : ℕ). get_or bytes i 0) (length bytes)) (term (length bytes) b)
    ∙ sym (run_first (λ (i : ℕ). get_or (b ∷ bytes) i 0) (length bytes))

-- ---- sums at the five powers

-- a sum of two at the five powers
pub powers_sum : (f g : ℕ → ℕ) → over_powers (λ (s : ℕ). bit_xor (f s) (g s)) ≡ bit_xor (over_powers f) (over_powers g)
powers_sum f g =
    let sum : ℕ → ℕ = λ (s : ℕ). bit_xor (f s) (g s) in
    ap (λ (t : ℕ). bit_xor (bit_xor (bit_xor t (sum 171)) (sum 176)) (sum 177)) (xor-xor (f 0) (g 0) (f 58) (g 58))
    ∙ ap (λ (t : ℕ). bit_xor (bit_xor t (sum 176)) (sum 177)) (xor-xor _ _ (f 171) (g 171))
    ∙ ap (λ (t : ℕ). bit_xor t (sum 177)) (xor-xor _ _ (f 176) (g 176))
    ∙ xor-xor _ _ (f 177) (g 177)

-- what is the same at each place up to the last power
pub powers_same : (f g : ℕ → ℕ) → ((s : ℕ) → s ≤ 177 → f s ≡ g s) → over_powers f ≡ over_powers g
powers_same f g same =
    ap₂ bit_xor (ap₂ bit_xor (ap₂ bit_xor (ap₂ bit_xor (same 0 (omega arith)) (same 58 (omega arith))) (same 171 (omega arith)))
    (same 176 (omega arith))) (same 177 (omega arith))

-- the value of an additive function at the sum
pub powers_under : (h f : ℕ → ℕ) → IsAdditive h → h (over_powers f) ≡ over_powers (λ (s : ℕ). h (f s))
powers_under h f additive =
    additive.at_sum _ (f 177)
    ∙ ap (λ (t : ℕ). bit_xor t (h (f 177))) (additive.at_sum _ (f 176)
    ∙ ap (λ (t : ℕ). bit_xor t (h (f 176))) (additive.at_sum _ (f 171)
    ∙ ap (λ (t : ℕ). bit_xor t (h (f 171))) (additive.at_sum (f 0) (f 58))))

-- only the first is not zero
pub powers_first : (f : ℕ → ℕ) → ((s : ℕ) → 58 ≤ s → f s ≡ 0) → over_powers f ≡ f 0
powers_first f none =
    ap₂ bit_xor (ap₂ bit_xor (ap₂ bit_xor (ap (bit_xor (f 0)) (none 58 (omega arith)) ∙ xor_zero_r (f 0)) (none 171 (omega arith))
    ∙ xor_zero_r (f 0)) (none 176 (omega arith)) ∙ xor_zero_r (f 0)) (none 177 (omega arith))
    ∙ xor_zero_r (f 0)

-- a run of sums
pub powers_run : (f : ℕ → ℕ → ℕ) (n : ℕ) → run (λ (i : ℕ). over_powers (λ (s : ℕ). f s i)) n ≡ over_powers (λ (s : ℕ). run (f s) n)
powers_run f zero = refl
powers_run f (suc n) =
    ap (λ (t : ℕ). after_byte t (over_powers (λ (s : ℕ). f s n))) (powers_run f n)
    ∙ after_is (over_powers (λ (s : ℕ). run (f s) n)) (over_powers (λ (s : ℕ). f s n))
    ∙ ap₂ bit_xor (powers_under by_one (λ (s : ℕ). run (f s) n) (IsAdditive-shifted_by 8))
    (powers_under by_one (λ (s : ℕ). f s n) (IsAdditive-shifted_by 8))
    ∙ sym (powers_sum (λ (s : ℕ). by_one (run (f s) n)) (λ (s : ℕ). by_one (f s n)))
    ∙ powers_same (λ (s : ℕ). bit_xor (by_one (run (f s) n)) (by_one (f s n))) (λ (s : ℕ). run (f s) (suc n))
    (λ s h. sym (after_is (run (f s) n) (f s n)))

-- a byte at the five powers, and at the sixth
powers_of : ℕ → ℕ
powers_of b = over_powers (λ (s : ℕ). by_bytes s (by_one b))

-- the powers of a sum
powers_at_sum : (a b : ℕ) → powers_of (bit_xor a b) ≡ bit_xor (powers_of a) (powers_of b)
unfolding powers_of by_bytes
powers_at_sum a b =
    let at : ℕ → ℕ → ℕ = λ (x s : ℕ). by_bytes s (by_one x) in
    powers_same (at (bit_xor a b)) (λ (s : ℕ). bit_xor (at a s) (at b s)) (λ s h. (IsAdditive-by_bytes (suc s)).at_sum a b)
    ∙ powers_sum (at a) (at b)

-- the five powers have the same sum as the sixth, at each bit of a byte
powers_of_bits : all_below 8 (λ i. eqb (powers_of (2 ^ i)) (by_bytes 438 (2 ^ i))) ≡ true
unfolding powers_of by_bytes shifted_by shifted
powers_of_bits = refl

-- the five powers have the same sum as the sixth, at each byte
pub powers_of_byte : (b : ℕ) → b < 2 ^ 8 → over_powers (λ (s : ℕ). by_bytes s (by_one b)) ≡ by_bytes 437 (by_one b)
unfolding powers_of by_bytes
powers_of_byte b h =
    IsAdditive-unique powers_of (by_bytes 438) record { at_sum = powers_at_sum } (IsAdditive-by_bytes 438) 8
    (λ i below. eqb-true _ _ (all_below-at 8 (λ i. eqb (powers_of (2 ^ i)) (by_bytes 438 (2 ^ i))) powers_of_bits i below)) b h
