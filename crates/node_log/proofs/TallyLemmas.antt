-- Bytes that are taken one thing after another.
use Rattle.std.proofs.Common.{◌≡◌, ℕ, ◌+◌, ◌%◌, ◌<◌, ◌≤◌, ◌^◌, List, [], ◌∷◌, ◌++◌, length, take, get_or}
use Rattle.std.proofs.Common.{refl, sym, ap, ◌∙◌, subst, arith, length-append, append-nil, take_all, bit_xor, w32}
use Rattle.std.specs.Int.{to_be_bytes}
use Rattle.std.specs.List.{flat_map}
use Rattle.std.proofs.lemmas.List.Sums.{fold-append}
use Rattle.frames.specs.Frame.{IsFrame, frame_bytes, string_bytes}
use Rattle.std.proofs.lemmas.Grind.{flat_map-append}
use Rattle.std.proofs.lemmas.List.{take_more}
use Rattle.node_log.specs.Crc32c.{after_byte, after_bytes, all_bits, crc32c}
use Rattle.node_log.specs.Entry.{digest_of}
use Rattle.node_log.specs.Tally.{Takes, digest_at}
use Rattle.node_log.specs.declared.tally.Tally.{Tally}
use Rattle.node_log.proofs.EntryLemmas.{frame_short}

count_then : (a b c x y : ℕ) → b ≡ (a + x) % 2 ^ 64 → c ≡ (b + y) % 2 ^ 64 → c ≡ (a + (x + y)) % 2 ^ 64
count_then a b c x y p q = omega arith

pub takes_then : (a b c : Tally) (xs ys : List ℕ) → Takes a b xs → Takes b c ys → Takes a c (xs ++ ys)
takes_then a b c xs ys p q = record {
  counted = count_then a.count b.count c.count (length xs) (length ys) p.counted q.counted
      ∙ ap (λ (n : ℕ). (a.count + n) % 2 ^ 64) (sym (length-append xs ys));
  checked = q.checked ∙ ap (λ (s : ℕ). after_bytes s ys) p.checked ∙ sym (fold-append after_byte a.state xs ys);
}

-- no byte is taken by a tally that counts below 2^64
pub takes_none : (a : Tally) → a.count < 2 ^ 64 → Takes a a []
takes_none a small = record { counted = omega arith; checked = refl }

-- one more string
one_more : (strings : List (List ℕ)) (i : ℕ) (s d : List ℕ) → i < length strings → s ≡ get_or strings i d
    → flat_map string_bytes (take (i + 1) strings) ≡ flat_map string_bytes (take i strings) ++ string_bytes s
one_more strings i s d lt is =
    ap (λ (ss : List (List ℕ)). flat_map string_bytes ss) (take_more strings i d lt)
    ∙ flat_map-append string_bytes (take i strings) (get_or strings i d ∷ [])
    ∙ ap (λ (t : List ℕ). flat_map string_bytes (take i strings) ++ t)
    (append-nil (string_bytes (get_or strings i d)) ∙ ap (λ (t : List ℕ). string_bytes t) (sym is))

pub strings_more : (a b c : Tally) (strings : List (List ℕ)) (i : ℕ) (s d : List ℕ) → i < length strings → s ≡ get_or strings i d
    → Takes a b (flat_map string_bytes (take i strings)) → Takes b c (string_bytes s)
    → Takes a c (flat_map string_bytes (take (i + 1) strings))
strings_more a b c strings i s d lt is p q =
    subst (Takes a c) (sym (one_more strings i s d lt is))
    (takes_then a b c (flat_map string_bytes (take i strings)) (string_bytes s) p q)

pub strings_done : (a b : Tally) (strings : List (List ℕ)) (i : ℕ) → length strings ≤ i
    → Takes a b (flat_map string_bytes (take i strings)) → Takes a b (flat_map string_bytes strings)
strings_done a b strings i le p = subst (λ (ss : List (List ℕ)). Takes a b (flat_map string_bytes ss)) (take_all i strings le) p

-- ---- the bytes of a frame, from the beginning

small_count : (count n : ℕ) → n < 2 ^ 56 → count ≡ (0 + n) % 2 ^ 64 → count ≡ n
small_count count n small is = omega arith

pub frame_counted : (a b : Tally) (strings : List (List ℕ)) → IsFrame strings → a.count ≡ 0 → Takes a b (frame_bytes strings)
    → b.count ≡ length (frame_bytes strings)
frame_counted a b strings lawful none p =
    let n = length (frame_bytes strings) in
    small_count b.count (length (frame_bytes strings)) (frame_short strings lawful)
    (p.counted ∙ ap (λ (m : ℕ). (m + n) % 2 ^ 64) none)

pub frame_checked : (a b : Tally) (bytes : List ℕ) → a.state ≡ all_bits → Takes a b bytes → digest_at b.state ≡ digest_of bytes
unfolding digest_of crc32c
frame_checked a b bytes begins p =
    ap (λ (s : ℕ). to_be_bytes w32 (bit_xor s all_bits)) (p.checked ∙ ap (λ (s : ℕ). after_bytes s bytes) begins)
