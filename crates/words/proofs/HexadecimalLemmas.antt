-- Hexadecimal digits, part by part.
use Rattle.std.proofs.Common.{◌≡◌, ◌==◌, ℕ, List, [], ◌∷◌, ◌++◌, length, false, refl, ap, true, nat_lt}
use Rattle.std.specs.Prelude.{slice_index, ◌/◌, ◌%◌}
use Rattle.std.specs.List.{AllPass}
use Rattle.std.specs.Str.{IsAscii}
use Rattle.std.proofs.lemmas.Bool.{ltb-true}
use Rattle.std.proofs.lemmas.List.Elements.{All-head, All-tail}
use Rattle.std.proofs.lemmas.List.Sums.{AllPass-from_list_all}
use Rattle.std.proofs.lemmas.Str.Ascii.{IsAscii-nil, IsAscii-cons}
use Rattle.hex.specs.Hex.{encode_lower, encode_with, lower_digits}
use Rattle.words.specs.Hexadecimal.{hexadecimal_text}

-- no bytes have no digits
pub encode_lower-nil : encode_lower [] ≡ []
unfolding encode_with
encode_lower-nil = refl

-- the digits of two parts
pub encode_lower-append : (xs ys : List ℕ) → encode_lower (xs ++ ys) ≡ encode_lower xs ++ encode_lower ys
unfolding encode_with
encode_lower-append [] ys = refl
encode_lower-append (x ∷ xs) ys =
    ap (λ t. slice_index lower_digits (x / 16) ∷ slice_index lower_digits (x % 16) ∷ t) (encode_lower-append xs ys)

-- the word of some bytes is their digits
pub hexadecimal_text-some : (bytes : List ℕ) → (length bytes == 0) ≡ false → encode_lower bytes ≡ hexadecimal_text bytes
hexadecimal_text-some [] some = cc
hexadecimal_text-some (byte ∷ rest) some = refl

-- a text is ASCII where each byte is
IsAscii-each : (bs : List ℕ) → AllPass (λ b. nat_lt b 128) bs → IsAscii bs
IsAscii-each [] each = IsAscii-nil
IsAscii-each (b ∷ bs) each =
    let P : ℕ → Type 0 = λ c. nat_lt c 128 ≡ true in
    IsAscii-cons b bs (ltb-true b 128 (All-head P b bs each)) (IsAscii-each bs (All-tail P b bs each))

-- the digits are ASCII
pub IsAscii-lower_digits : IsAscii lower_digits
IsAscii-lower_digits = IsAscii-each lower_digits (AllPass-from_list_all (λ b. nat_lt b 128) lower_digits refl)
