-- CRC-32C. A state is a polynomial over two elements of degree below 32, with bit 31 - i as the coefficient of x^i.
use Rattle.std.specs.Prelude.{◌≢◌, ◌*◌, ◌/◌, ◌-◌, ◌^◌, ◌<◌, ◌++◌, ◌∷◌, ℕ, zero, suc, List, bit_xor}
use Rattle.std.specs.Int.{bit_at}
use Rattle.std.specs.List.{fold}

-- the modulus without its term x^32: Castagnoli's polynomial, 0x1EDC6F41 with its bits in the other order
abbrev pub castagnoli : ℕ
castagnoli = 0x82F63B78

-- the remainder of a state times x by the modulus
unfoldable pub shifted : ℕ → ℕ
shifted state = bit_xor (state / 2) (bit_at state 0 * castagnoli)

-- the remainder of a state times x^n
unfoldable pub shifted_by : ℕ → ℕ → ℕ
shifted_by zero state = state
shifted_by (suc n) state = shifted (shifted_by n state)

-- the state after one byte
unfoldable pub after_byte : ℕ → ℕ → ℕ
after_byte state byte = shifted_by 8 (bit_xor state byte)

-- the state after bytes
abbrev pub after_bytes : ℕ → List ℕ → ℕ
after_bytes state bytes = fold after_byte state bytes

-- the state with all 32 bits set, with which the check begins, and which is added at its end
abbrev pub all_bits : ℕ
all_bits = 2 ^ 32 - 1

-- the CRC-32C of bytes
unfoldable pub crc32c : List ℕ → ℕ
crc32c bytes = bit_xor (after_bytes all_bits bytes) all_bits

-- bytes of which one is another have another CRC-32C
abbrev pub ChangesAreNoticed : Type 0
ChangesAreNoticed = (before behind : List ℕ) (old new : ℕ) → old < 256 → new < 256 → old ≢ new
    → crc32c (before ++ old ∷ behind) ≢ crc32c (before ++ new ∷ behind)
