-- Reading a number from the bytes of a whole string, from left to right, up to the first fault.
use Rattle.std.specs.Prelude.{ℕ, List, [], ◌∷◌, Result, Ok, Err}
use Rattle.words.specs.Digits.{first_digit, with_digit}
use Rattle.words.specs.Parts.{and_then}

-- More digits after those of n: the number of all of them. The faults are those of `with_digit`.
unfoldable pub digits_from : {E : Type 0} → (bad : E) → (most : ℕ) → (above : E) → (n : ℕ) → List ℕ → Result ℕ E
digits_from bad most above n [] = Ok n
digits_from bad most above n (byte ∷ bytes) =
    and_then (with_digit bad most above n byte) (λ more. digits_from bad most above more bytes)

-- The number up to `most` that a whole string writes. The fault is `bad` if there is a byte that is no digit, a leading
-- 0, or nothing, and `above` if the digits so far are those of a number above `most`.
unfoldable pub number_up_to : {E : Type 0} → (bad : E) → (most : ℕ) → (above : E) → List ℕ → Result ℕ E
number_up_to bad most above [] = Err bad
number_up_to bad most above (byte ∷ bytes) =
    and_then (first_digit bad byte) (λ n. digits_from bad most above n bytes)
