use Rattle.std.proofs.Common.{List, ℕ, ◌/◌, ◌%◌, ◌∙◌, ◌≡◌, [], ◌∷◌, ap, ap₂, sym, refl, get_or, arith, bit_xor}
use Rattle.std.specs.Int.{w32, to_le_bytes}
use Rattle.std.proofs.lemmas.Nat.{le_bytes_4, xor_lt, xor_mod}
use Rattle.node_log.specs.Crc32c.{after_bytes}
use Rattle.node_log.specs.declared.tables.TheConstants.{BY_ONE, BY_TWO, BY_THREE, BY_FOUR, BY_FIVE, BY_SIX, BY_SEVEN, BY_EIGHT}
use Rattle.node_log.proofs.StateLemmas.{byte_of_sum, eight}
use Rattle.node_log.proofs.TableLemmas.{looked_up, entry_of, first_four, written_out}
use Rattle.node_log.proofs.TableLemmas as tables
use Rattle.node_log.proofs.states.after_eight.Goals as goal

pub returns : goal.returns
returns c =
    let s = c.args.state in
    let s1 = s / 256 in
    let s2 = s1 / 256 in
    let s3 = s2 / 256 in
    let b = c.args.bytes.now in
    let byte = c.fits-bytes in
    let n = c.from_le_bytes-first.result in
    let sums = c.to_le_bytes-sums.ensures in
    let four : to_le_bytes w32 n ≡ get_or b 0 0 ∷ get_or b 1 0 ∷ get_or b 2 0 ∷ get_or b 3 0 ∷ [] =
    le_bytes_4 _ n refl (first_four b byte) c.from_le_bytes-first.ensures in
    let part : (i : ℕ) → get_or (to_le_bytes w32 n) i 0 ≡ get_or (get_or b 0 0 ∷ get_or b 1 0 ∷ get_or b 2 0 ∷ get_or b 3 0 ∷ []) i 0 =
    λ i. ap (λ (l : List ℕ). get_or l i 0) four in
    let two : s / 65536 % 256 ≡ s2 % 256 = omega arith in
    let three : s / 16777216 % 256 ≡ s3 % 256 = omega arith in
    let none : s3 / 256 ≡ 0 = omega (arith, c.ranges.state.fits) in
    ap₂ bit_xor (ap₂ bit_xor (ap₂ bit_xor (ap₂ bit_xor (ap₂ bit_xor (ap₂ bit_xor (ap₂ bit_xor
    (c.shifted.ensures ∙ entry_of BY_ONE 0 tables.one (get_or b 7 0) (byte 7))
    (c.shifted-2.ensures ∙ entry_of BY_TWO 1 tables.two (get_or b 6 0) (byte 6)))
    (c.shifted-3.ensures ∙ entry_of BY_THREE 2 tables.three (get_or b 5 0) (byte 5)))
    (c.shifted-4.ensures ∙ entry_of BY_FOUR 3 tables.four (get_or b 4 0) (byte 4)))
    (looked_up BY_FIVE 4 tables.five c.shifted-5.result _ (bit_xor (s3 % 256) (get_or b 3 0)) c.shifted-5.ensures
    (ap (λ (l : List ℕ). get_or l 3 0) sums ∙ byte_of_sum s n 24 (get_or b 3 0) (part 3)
    ∙ ap (λ (t : ℕ). bit_xor t (get_or b 3 0)) three) (xor_lt 8 (s3 % 256) (get_or b 3 0) (omega arith) (byte 3))))
    (looked_up BY_SIX 5 tables.six c.shifted-6.result _ (bit_xor (s2 % 256) (get_or b 2 0)) c.shifted-6.ensures
    (ap (λ (l : List ℕ). get_or l 2 0) sums ∙ byte_of_sum s n 16 (get_or b 2 0) (part 2)
    ∙ ap (λ (t : ℕ). bit_xor t (get_or b 2 0)) two) (xor_lt 8 (s2 % 256) (get_or b 2 0) (omega arith) (byte 2))))
    (looked_up BY_SEVEN 6 tables.seven c.shifted-7.result _ (bit_xor (s1 % 256) (get_or b 1 0)) c.shifted-7.ensures
    (ap (λ (l : List ℕ). get_or l 1 0) sums ∙ byte_of_sum s n 8 (get_or b 1 0) (part 1))
    (xor_lt 8 (s1 % 256) (get_or b 1 0) (omega arith) (byte 1))))
    (looked_up BY_EIGHT 7 tables.eight c.shifted-8.result _ (bit_xor (s % 256) (get_or b 0 0)) c.shifted-8.ensures
    (ap (λ (l : List ℕ). get_or l 0 0) sums ∙ xor_mod s n 8 ∙ ap (bit_xor (s % 256)) (part 0))
    (xor_lt 8 (s % 256) (get_or b 0 0) (omega arith) (byte 0)))
    ∙ sym (ap (λ (l : List ℕ). after_bytes s l) (written_out b c.told-bytes)
    ∙ eight s s1 s2 s3 (get_or b 0 0) (get_or b 1 0) (get_or b 2 0) (get_or b 3 0) (get_or b 4 0) (get_or b 5 0) (get_or b 6 0)
    (get_or b 7 0) refl refl refl none)
