-- Reading a frame from left to right, up to the first fault.
use Rattle.std.specs.Prelude.{◌≡◌, ◌==◌, ℕ, zero, suc, List, [], ◌∷◌, length, take, drop, ⊤}
use Rattle.std.specs.Prelude.{Option, Some, None, Result, Ok, Err, nat_lt, if◌then◌else◌}
use Rattle.words.specs.Digits.{first_digit, with_digit}
use Rattle.words.specs.Parts.{and_then}
use Rattle.frames.specs.declared.error.Fault.{Fault}
use Rattle.frames.specs.declared.error.Fault.TheVariants.{BadType, BadNumber, NoLineEnd, TooManyStrings}
use Rattle.frames.specs.declared.error.Fault.TheVariants.{StringTooLong, UnexpectedEnd}
use Rattle.frames.specs.declared.error.FrameError.{FrameError}
use Rattle.frames.specs.declared.error.FrameError.TheVariants as errors
use Rattle.frames.specs.declared.limits.TheConstants.{MOST_STRINGS, LONGEST_STRING}

-- what is at the front of some bytes, or the first fault there; and the bytes that are left after it
abbrev pub Parsed : Type 0 → Type 0
Parsed X = Result (X × List ℕ) (Fault × List ℕ)

-- a value or a fault, with these bytes left
abbrev pub leaving : {A : Type 0} → Result A Fault → List ℕ → Parsed A
leaving (Ok x) rest = Ok (x, rest)
leaving (Err fault) rest = Err (fault, rest)

-- one byte
unfoldable pub byte_at : List ℕ → Parsed ℕ
byte_at [] = Err (UnexpectedEnd, [])
byte_at (byte ∷ rest) = Ok (byte, rest)

-- the next byte, which has to be `expected`; any other byte gives this fault
unfoldable pub expected_at : ℕ → Fault → List ℕ → Parsed ℕ
expected_at expected fault bytes =
    and_then (byte_at bytes) (λ byte. if byte.0 == expected then Ok byte else Err (fault, byte.1))

-- CR LF
unfoldable pub line_end_at : List ℕ → Parsed ℕ
line_end_at bytes = and_then (expected_at 13 NoLineEnd bytes) (λ cr. expected_at 10 NoLineEnd cr.1)

-- so many bytes
unfoldable pub bytes_at : ℕ → List ℕ → Parsed (List ℕ)
bytes_at n bytes = if nat_lt (length bytes) n then Err (UnexpectedEnd, []) else Ok (take n bytes, drop n bytes)

-- the rest of a number that begins with the digits of n: more digits, and CR
unfoldable pub digits_at : ℕ → Fault → ℕ → List ℕ → Parsed ℕ
digits_at most above n [] = Err (UnexpectedEnd, [])
digits_at most above n (byte ∷ rest) =
    if byte == 13 then Ok (n, rest)
    else and_then (leaving (with_digit BadNumber most above n byte) rest) (λ more. digits_at most above more.0 rest)

-- a number up to `most`, or the fault `above` at a greater one; and CR LF
unfoldable pub number_at : ℕ → Fault → List ℕ → Parsed ℕ
number_at most above bytes =
    and_then (byte_at bytes) (λ byte.
    and_then (leaving (first_digit BadNumber byte.0) byte.1) (λ first.
    and_then (digits_at most above first.0 first.1) (λ n.
    and_then (expected_at 10 NoLineEnd n.1) (λ lf.
    Ok (n.0, lf.1)))))

-- a string
unfoldable pub string_at : List ℕ → Parsed (List ℕ)
string_at bytes =
    and_then (expected_at 36 BadType bytes) (λ mark.
    and_then (number_at LONGEST_STRING StringTooLong mark.1) (λ n.
    and_then (bytes_at n.0 n.1) (λ string.
    and_then (line_end_at string.1) (λ lf.
    Ok (string.0, lf.1)))))

-- so many strings
unfoldable pub strings_at : ℕ → List ℕ → Parsed (List (List ℕ))
strings_at zero bytes = Ok ([], bytes)
strings_at (suc n) bytes =
    and_then (string_at bytes) (λ first.
    and_then (strings_at n first.1) (λ others.
    Ok (first.0 ∷ others.0, others.1)))

-- what follows the `*` of a frame
unfoldable pub array_at : List ℕ → Parsed (List (List ℕ))
array_at bytes = and_then (number_at MOST_STRINGS TooManyStrings bytes) (λ n. strings_at n.0 n.1)

-- a frame, or none at the end of the bytes
unfoldable pub frame_at : List ℕ → Parsed (Option (List (List ℕ)))
frame_at [] = Ok (None, [])
frame_at (byte ∷ rest) =
    if byte == 42 then and_then (array_at rest) (λ strings. Ok (Some strings.0, strings.1)) else Err (BadType, rest)

-- The relation holds between the bytes that a reader had left and those that it has left now. If it is not known
-- what it had left, nothing is said.
abbrev pub Between : (List ℕ → List ℕ → Type 0) → Option (List ℕ) → Option (List ℕ) → Type 0
Between P None new = ⊤
Between P (Some xs) None = ⊥
Between P (Some xs) (Some ys) = P xs ys

-- What a function returned, seen by `view`, is what is at the front of the bytes that the reader had left, and the
-- reader now has left what comes after it. If there was no memory or the reader failed, nothing is said.
abbrev pub GivesAs : {X Y : Type 0} → (X → Y) → (List ℕ → Parsed Y) → Option (List ℕ) → Option (List ℕ)
    → Result X FrameError → Type 0
GivesAs view at old new (Ok x) = Between (λ xs ys. at xs ≡ Ok (view x, ys)) old new
GivesAs view at old new (Err (errors.Fault fault)) = Between (λ xs ys. at xs ≡ Err (fault, ys)) old new
GivesAs view at old new (Err errors.NoMemory) = ⊤
GivesAs view at old new (Err (errors.Failed error)) = ⊤

-- `GivesAs` for a function that returns the value itself
abbrev pub Returns : {X : Type 0} → (List ℕ → Parsed X) → Option (List ℕ) → Option (List ℕ) → Result X FrameError
    → Type 0
Returns at old new result = GivesAs (λ x. x) at old new result
