-- Reading the digits of a number without a leading zero, one after another, up to the first fault.
use Rattle.std.specs.Prelude.{ℕ, ◌+◌, ◌-◌, ◌*◌, ◌==◌, Result, Ok, Err, nat_lt, if◌then◌else◌}
use Rattle.std.specs.Char.{is_ascii_digit}

-- the first digit of a number, or the fault `bad` if the byte is no digit
unfoldable pub first_digit : {E : Type 0} → (bad : E) → ℕ → Result ℕ E
first_digit bad byte = if is_ascii_digit byte then Ok (byte - 48) else Err bad

-- One more digit after those of n: the number of all of them. The fault is `bad` if the byte is no digit or n is a
-- leading 0, and `above` if the number is above `most`.
unfoldable pub with_digit : {E : Type 0} → (bad : E) → (most : ℕ) → (above : E) → (n byte : ℕ) → Result ℕ E
with_digit bad most above n byte =
    if is_ascii_digit byte
    then (if n == 0 then Err bad
    else (if nat_lt most (10 * n + (byte - 48)) then Err above else Ok (10 * n + (byte - 48))))
    else Err bad
