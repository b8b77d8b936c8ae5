-- An entry that was written behind another chain is damage.
use Rattle.std.proofs.Common.{◌≡◌, ℕ, ◌+◌, ◌-◌, ◌<◌, ◌^◌, List, [], ◌∷◌, ◌++◌, length, bit_xor}
use Rattle.std.proofs.Common.{refl, sym, ap, subst, ◌∙◌, arith}
use Rattle.std.specs.List.{AllByRecursion}
use Rattle.std.specs.Int.{w32, w64, to_be_bytes, from_be_bytes}
use Rattle.std.proofs.lemmas.Nat.{xor_lt, from_be_bytes-to_be_bytes_4}
use Rattle.gf256.proofs.AdditiveFunctionLemmas.{xor_cancel, eq-xor_zero}
use Rattle.frames.specs.Frame.{frame_bytes}
use Rattle.node_log.specs.Crc32c.{after_byte, after_bytes, all_bits}
use Rattle.node_log.specs.Folding.{by_bytes}
use Rattle.node_log.specs.Entry.{IsHead, chain_after, described, digest_behind, digest_of, log_entry_bytes}
use Rattle.node_log.specs.Reading.{body_length}
use Rattle.node_log.specs.Laws.{MovedIsDamaged}
use Rattle.node_log.proofs.ShiftLemmas.{shifted_by_lt}
use Rattle.node_log.proofs.StateLemmas.{added_is_zero, after_sum, by_bytes_zero, same_terms}
use Rattle.node_log.proofs.HeadLemmas.{last_of_head, number_of, says_of_head}
use Rattle.node_log.proofs.EntryLemmas.{parts}
use Rattle.node_log.proofs.CutEntryLemmas.{last_byte}

-- ---- bytes

abbrev AreBytes : List ℕ → Type 0
AreBytes bytes = AllByRecursion (λ (b : ℕ). b < 256) bytes

are_both : (xs ys : List ℕ) → AreBytes xs → AreBytes ys → AreBytes (xs ++ ys)
are_both [] ys p q = q
are_both (x ∷ xs) ys p q = (p.0, are_both xs ys p.1 q)

of_eight : (n : ℕ) → AreBytes (to_be_bytes w64 n)
of_eight n =
    (omega arith, (omega arith, (omega arith, (omega arith, (omega arith, (omega arith, (omega arith, (omega arith, tt))))))))

of_digest : (bytes : List ℕ) → AreBytes (digest_of bytes)
unfolding digest_of
of_digest bytes = (omega arith, (omega arith, (omega arith, (omega arith, tt))))

of_described : (body : List ℕ) → AreBytes (described body)
unfolding described
of_described body = are_both (to_be_bytes w64 (number_of body)) (digest_of body) (of_eight (number_of body)) (of_digest body)

-- ---- states

after_bytes_lt : (bytes : List ℕ) (s : ℕ) → AreBytes bytes → s < 2 ^ 32 → after_bytes s bytes < 2 ^ 32
unfolding after_byte
after_bytes_lt [] s all h = h
after_bytes_lt (b ∷ bytes) s all h =
    let byte = all.0 in
    after_bytes_lt bytes (after_byte s b) all.1 (shifted_by_lt 8 (bit_xor s b) (xor_lt 32 s b h (omega arith)))

pub chain_after_lt : (chain : ℕ) (strings : List (List ℕ)) → chain < 2 ^ 32 → chain_after chain strings < 2 ^ 32
unfolding chain_after
chain_after_lt chain strings h = after_bytes_lt (described (frame_bytes strings)) chain (of_described (frame_bytes strings)) h

-- two states that become the same are the same
same_state : (bytes : List ℕ) (s t : ℕ) → s < 2 ^ 32 → t < 2 ^ 32 → after_bytes s bytes ≡ after_bytes t bytes → s ≡ t
same_state bytes s t hs ht e =
    let other = bit_xor s t in
    let added = by_bytes (length bytes) (bit_xor s t) in
    let sum : after_bytes t bytes ≡ bit_xor (after_bytes s bytes) (by_bytes (length bytes) (bit_xor s t)) =
    ap (λ (u : ℕ). after_bytes u bytes) (sym (xor_cancel s t)) ∙ after_sum bytes s other in
    eq-xor_zero s t (by_bytes_zero (length bytes) other (xor_lt 32 s t hs ht) (added_is_zero (after_bytes s bytes) added (e ∙ sum)))

all_bits_lt : all_bits < 2 ^ 32
all_bits_lt = omega arith

-- two states behind which the same bytes have the same digest are the same
same_digest : (bytes : List ℕ) (s t : ℕ) → AreBytes bytes → s < 2 ^ 32 → t < 2 ^ 32
    → digest_behind s bytes ≡ digest_behind t bytes → s ≡ t
unfolding digest_behind
same_digest bytes s t all hs ht e =
    let a = bit_xor (after_bytes s bytes) all_bits in
    let b = bit_xor (after_bytes t bytes) all_bits in
    let small : a < 2 ^ 32 = xor_lt 32 (after_bytes s bytes) all_bits (after_bytes_lt bytes s all hs) all_bits_lt in
    let small_too : b < 2 ^ 32 = xor_lt 32 (after_bytes t bytes) all_bits (after_bytes_lt bytes t all ht) all_bits_lt in
    same_state bytes s t hs ht (same_terms (after_bytes s bytes) (after_bytes t bytes) all_bits
    (sym (from_be_bytes-to_be_bytes_4 a small) ∙ ap (from_be_bytes w32) e ∙ from_be_bytes-to_be_bytes_4 b small_too))

pub moved_is_damaged : MovedIsDamaged
moved_is_damaged chain other strings rest lawful hc ho differs =
    let body = frame_bytes strings in
    let bytes = log_entry_bytes other strings ++ rest in
    let p = parts other bytes strings rest lawful refl in (
      (λ has.
          let is = subst (IsHead chain) p.head has in
          differs (sym (same_digest (described body) chain other (of_described body) hc ho
          (ap (digest_behind chain) (sym (says_of_head other body)) ∙ is.digest ∙ last_of_head other body)))),
      (λ stops.
          let line = last_byte other bytes strings rest lawful refl in
          let zero = stops (16 + (body_length bytes - 1)) (omega arith) in
          absurd (omega arith)),
    )
