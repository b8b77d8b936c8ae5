-- The state after bytes, by what each of them adds to it.
use Rattle.std.proofs.Common.{◌≡◌, ℕ, zero, suc, ◌/◌, ◌%◌, ◌^◌, ◌<◌, List, [], ◌∷◌, ◌++◌, length, bit_xor}
use Rattle.std.proofs.Common.{refl, sym, ap, ◌∙◌, arith}
use Rattle.std.specs.Int.Bits.{xor_assoc, xor_comm, xor_self}
use Rattle.std.proofs.lemmas.Nat.{xor_lt, xor_mod, xor_shr}
use Rattle.std.proofs.lemmas.List.Sums.{fold-append}
use Rattle.gf256.proofs.AdditiveFunctionLemmas.{xor_cancel, eq-xor_zero}
use Rattle.node_log.specs.Crc32c.{shifted_by, after_byte, after_bytes, crc32c, all_bits, ChangesAreNoticed}
use Rattle.node_log.specs.Folding.{by_bytes}
use Rattle.node_log.proofs.ShiftLemmas.{zero_xor, IsAdditive-shifted_by, after_byte_split, shifted_by_lt, shifted_by_zero}

-- the last of three terms goes between the others
pub xor_swap : (a b c : ℕ) → bit_xor (bit_xor a b) c ≡ bit_xor (bit_xor a c) b
xor_swap a b c = xor_assoc a b c ∙ ap (bit_xor a) (xor_comm b c) ∙ sym (xor_assoc a c b)

after_byte_sum : (u v b : ℕ) → after_byte (bit_xor u v) b ≡ bit_xor (after_byte u b) (shifted_by 8 v)
unfolding after_byte
after_byte_sum u v b = ap (shifted_by 8) (xor_swap u v b) ∙ (IsAdditive-shifted_by 8).at_sum (bit_xor u b) v

-- what is added to a state is shifted by all bytes that follow
pub after_sum : (bytes : List ℕ) (u v : ℕ)
    → after_bytes (bit_xor u v) bytes ≡ bit_xor (after_bytes u bytes) (by_bytes (length bytes) v)
unfolding by_bytes
after_sum [] u v = refl
after_sum (b ∷ bytes) u v =
    ap (λ (t : ℕ). after_bytes t bytes) (after_byte_sum u v b) ∙ after_sum bytes (after_byte u b) (shifted_by 8 v)

-- the first byte and the lowest one of the state, apart from the others
peel : (s b : ℕ) (bytes : List ℕ) → after_bytes s (b ∷ bytes)
    ≡ bit_xor (after_bytes (s / 256) bytes) (by_bytes (length bytes) (shifted_by 8 (bit_xor (s % 256) b)))
peel s b bytes =
    ap (λ (t : ℕ). after_bytes t bytes) (after_byte_split s b)
    ∙ after_sum bytes (s / 256) (shifted_by 8 (bit_xor (s % 256) b))

-- the same where the state is zero
pub peel_zero : (b : ℕ) (bytes : List ℕ)
    → after_bytes 0 (b ∷ bytes) ≡ bit_xor (after_bytes 0 bytes) (by_bytes (length bytes) (shifted_by 8 b))
peel_zero b bytes =
    peel 0 b bytes
    ∙ ap (λ (t : ℕ). bit_xor (after_bytes 0 bytes) (by_bytes (length bytes) (shifted_by 8 t))) (zero_xor b)

-- a byte, shifted by itself and n bytes more
abbrev pub term : ℕ → ℕ → ℕ
term n b = by_bytes n (shifted_by 8 b)

four : (b c d e : ℕ) → after_bytes 0 (b ∷ c ∷ d ∷ e ∷ [])
    ≡ bit_xor (bit_xor (bit_xor (term 0 e) (term 1 d)) (term 2 c)) (term 3 b)
unfolding by_bytes
four b c d e =
    peel_zero b (c ∷ d ∷ e ∷ [])
    ∙ ap (λ (t : ℕ). bit_xor t (term 3 b)) (peel_zero c (d ∷ e ∷ [])
    ∙ ap (λ (t : ℕ). bit_xor t (term 2 c)) (peel_zero d (e ∷ [])
    ∙ ap (λ (t : ℕ). bit_xor t (term 1 d)) (peel_zero e [] ∙ zero_xor (term 0 e))))

-- a byte of a sum
pub byte_of_sum : (a b k x : ℕ) → b / 2 ^ k % 2 ^ 8 ≡ x → bit_xor a b / 2 ^ k % 2 ^ 8 ≡ bit_xor (a / 2 ^ k % 2 ^ 8) x
byte_of_sum a b k x is =
    ap (λ (t : ℕ). t % 2 ^ 8) (xor_shr a b k) ∙ xor_mod (a / 2 ^ k) (b / 2 ^ k) 8 ∙ ap (bit_xor (a / 2 ^ k % 2 ^ 8)) is

-- eight bytes
pub eight : (s s1 s2 s3 a b c d e f g h : ℕ) → s1 ≡ s / 256 → s2 ≡ s1 / 256 → s3 ≡ s2 / 256 → s3 / 256 ≡ 0
    → after_bytes s (a ∷ b ∷ c ∷ d ∷ e ∷ f ∷ g ∷ h ∷ [])
    ≡ bit_xor (bit_xor (bit_xor (bit_xor (bit_xor (bit_xor (bit_xor (term 0 h) (term 1 g)) (term 2 f)) (term 3 e))
    (term 4 (bit_xor (s3 % 256) d))) (term 5 (bit_xor (s2 % 256) c))) (term 6 (bit_xor (s1 % 256) b)))
    (term 7 (bit_xor (s % 256) a))
eight s s1 s2 s3 a b c d e f g h is1 is2 is3 is4 =
    let behind4 = e ∷ f ∷ g ∷ h ∷ [] in
    let behind3 = d ∷ behind4 in
    let behind2 = c ∷ behind3 in
    let behind1 = b ∷ behind2 in
    peel s a behind1
    ∙ ap (λ (t : ℕ). bit_xor t (term 7 (bit_xor (s % 256) a)))
    (ap (λ (t : ℕ). after_bytes t behind1) (sym is1) ∙ peel s1 b behind2
    ∙ ap (λ (t : ℕ). bit_xor t (term 6 (bit_xor (s1 % 256) b)))
    (ap (λ (t : ℕ). after_bytes t behind2) (sym is2) ∙ peel s2 c behind3
    ∙ ap (λ (t : ℕ). bit_xor t (term 5 (bit_xor (s2 % 256) c)))
    (ap (λ (t : ℕ). after_bytes t behind3) (sym is3) ∙ peel s3 d behind4
    ∙ ap (λ (t : ℕ). bit_xor t (term 4 (bit_xor (s3 % 256) d)))
    (ap (λ (t : ℕ). after_bytes t behind4) is4 ∙ four e f g h))))

-- ---- a changed byte

pub by_bytes_zero : (n s : ℕ) → s < 2 ^ 32 → by_bytes n s ≡ 0 → s ≡ 0
unfolding by_bytes
by_bytes_zero zero s h e = e
by_bytes_zero (suc n) s h e =
    shifted_by_zero 8 s h (by_bytes_zero n (shifted_by 8 s) (shifted_by_lt 8 s h) e)

-- two sums with one term in common are equal only if the others are
pub same_terms : (a b c : ℕ) → bit_xor a c ≡ bit_xor b c → a ≡ b
same_terms a b c e =
    sym (xor_cancel c a) ∙ ap (bit_xor c) (xor_comm c a ∙ e ∙ xor_comm b c) ∙ xor_cancel c b

pub added_is_zero : (a b : ℕ) → a ≡ bit_xor a b → b ≡ 0
added_is_zero a b e = sym (xor_cancel a b) ∙ ap (bit_xor a) (sym e) ∙ xor_self a

after_other : (s old new : ℕ) → after_byte s new ≡ bit_xor (after_byte s old) (shifted_by 8 (bit_xor old new))
unfolding after_byte
after_other s old new =
    ap (shifted_by 8) (ap (bit_xor s) (sym (xor_cancel old new)) ∙ sym (xor_assoc s old (bit_xor old new)))
    ∙ (IsAdditive-shifted_by 8).at_sum (bit_xor s old) (bit_xor old new)

same_byte : (s old new : ℕ) (behind : List ℕ) → old < 2 ^ 8 → new < 2 ^ 8
    → after_bytes s (old ∷ behind) ≡ after_bytes s (new ∷ behind) → old ≡ new
same_byte s old new behind ho hn e =
    let other = bit_xor old new in
    let small : bit_xor old new < 2 ^ 8 = xor_lt 8 old new ho hn in
    let shifted_small : shifted_by 8 (bit_xor old new) < 2 ^ 32 = shifted_by_lt 8 other (omega arith) in
    let sum = ap (λ (t : ℕ). after_bytes t behind) (after_other s old new) ∙ after_sum behind (after_byte s old) (shifted_by 8 other) in
    eq-xor_zero old new (shifted_by_zero 8 other (omega arith)
    (by_bytes_zero (length behind) (shifted_by 8 other) shifted_small
    (added_is_zero (after_bytes (after_byte s old) behind) (by_bytes (length behind) (shifted_by 8 other)) (e ∙ sum))))

pub changes_are_noticed : ChangesAreNoticed
unfolding crc32c
changes_are_noticed before behind old new ho hn other same =
    let states : after_bytes all_bits (before ++ old ∷ behind) ≡ after_bytes all_bits (before ++ new ∷ behind) =
    same_terms _ _ all_bits same in
    other (same_byte (after_bytes all_bits before) old new behind ho hn
    (sym (fold-append after_byte all_bits before (old ∷ behind)) ∙ states ∙ fold-append after_byte all_bits before (new ∷ behind)))
