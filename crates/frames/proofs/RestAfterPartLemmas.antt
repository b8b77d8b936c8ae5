-- What is read behind each part of a number, of a string and of a frame.
use Rattle.std.proofs.Common.{ℕ, List, ◌∷◌, Option, Some, Ok}
use Rattle.frames.specs.declared.error.Fault.{Fault}
use Rattle.frames.specs.declared.error.Fault.TheVariants.{BadNumber, NoLineEnd, StringTooLong}
use Rattle.frames.specs.declared.limits.TheConstants.{LONGEST_STRING}
use Rattle.frames.specs.Reading.{Parsed, leaving, expected_at, line_end_at, bytes_at}
use Rattle.frames.specs.Reading.{digits_at, number_at, strings_at}
use Rattle.words.specs.Digits.{first_digit}
use Rattle.words.specs.Parts.{and_then}

-- ---- a number: its first byte, the first digit, all digits

abbrev pub after_digits : ℕ × List ℕ → Parsed ℕ
after_digits n = and_then (expected_at 10 NoLineEnd n.1) (λ lf. Ok (n.0, lf.1))

abbrev pub after_first : ℕ → Fault → ℕ × List ℕ → Parsed ℕ
after_first most above first = and_then (digits_at most above first.0 first.1) after_digits

abbrev pub after_byte : ℕ → Fault → ℕ × List ℕ → Parsed ℕ
after_byte most above byte = and_then (leaving (first_digit BadNumber byte.0) byte.1) (after_first most above)

-- ---- a string: its `$`, its length, its bytes

abbrev pub after_string : List ℕ × List ℕ → Parsed (List ℕ)
after_string string = and_then (line_end_at string.1) (λ lf. Ok (string.0, lf.1))

abbrev pub after_length : ℕ × List ℕ → Parsed (List ℕ)
after_length n = and_then (bytes_at n.0 n.1) after_string

abbrev pub after_mark : ℕ × List ℕ → Parsed (List ℕ)
after_mark mark = and_then (number_at LONGEST_STRING StringTooLong mark.1) after_length

-- ---- strings: the first of them; a frame: its strings

abbrev pub after_one : ℕ → List ℕ × List ℕ → Parsed (List (List ℕ))
after_one n first = and_then (strings_at n first.1) (λ others. Ok (first.0 ∷ others.0, others.1))

abbrev pub after_count : ℕ × List ℕ → Parsed (List (List ℕ))
after_count n = strings_at n.0 n.1

abbrev pub as_frame : List (List ℕ) × List ℕ → Parsed (Option (List (List ℕ)))
as_frame strings = Ok (Some strings.0, strings.1)
