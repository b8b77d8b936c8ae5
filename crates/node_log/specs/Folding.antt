-- The contracts that docs/trusted.md lists do not depend on this file; other contracts and proofs do.
-- Folded bytes. The sum of five powers of x^8, the 0th, 58th, 171st, 176th and 177th, is the 437th, modulo the
-- polynomial of the check. So a byte need not be shifted over the bytes behind it: it is added to the five of them that
-- stand at these powers. A byte with all that was added to it is a folded byte. The last 437 folded bytes have all that
-- the bytes up to them add to later states.
use Rattle.std.specs.Prelude.{◌≡◌, ◌+◌, ◌-◌, ℕ, zero, suc, List, bit_xor, slice_index}
use Rattle.node_log.specs.Crc32c.{shifted_by, after_byte, after_bytes}

-- a state that is shifted by n bytes
unfoldable pub by_bytes : ℕ → ℕ → ℕ
by_bytes zero state = state
by_bytes (suc n) state = by_bytes n (shifted_by 8 state)

-- the sum at the five powers
abbrev pub over_powers : (ℕ → ℕ) → ℕ
over_powers f = bit_xor (bit_xor (bit_xor (bit_xor (f 0) (f 58)) (f 171)) (f 176)) (f 177)

-- the state after the first n of some bytes, from zero on
abbrev pub run : (ℕ → ℕ) → ℕ → ℕ
run bytes zero = 0
run bytes (suc n) = after_byte (run bytes n) (bytes n)

-- what 437 folded bytes from a place on add to the state after 437 bytes more
abbrev pub waiting : (ℕ → ℕ) → ℕ → ℕ
waiting folded place = over_powers (λ (s : ℕ). by_bytes s (run (λ (i : ℕ). folded (place + s + i)) (437 - s)))

-- the folded bytes from a place on stand for a state
unfoldable pub StandsAt : ℕ → ℕ → List ℕ → Type 0
StandsAt state place folded = by_bytes 437 state ≡ waiting (λ (i : ℕ). slice_index folded i) place

-- folded bytes that stood for a state stand for the state after some bytes
abbrev pub GoesOn : List ℕ → List ℕ → List ℕ → Type 0
GoesOn old bytes new = (state : ℕ) → StandsAt state 0 old → StandsAt (after_bytes state bytes) 0 new

-- the state after the unfolded bytes, from zero on, is the one after these bytes from the state on for which the folded
-- bytes stand
abbrev pub Unfolds : List ℕ → List ℕ → List ℕ → Type 0
Unfolds folded bytes unfolded = (state : ℕ) → StandsAt state 0 folded → after_bytes 0 unfolded ≡ after_bytes state bytes
