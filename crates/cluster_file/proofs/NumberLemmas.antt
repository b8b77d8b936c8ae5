-- A word of decimal digits, as it is parsed.
use Rattle.std.proofs.Common.{◌≡◌, ◌&&◌, ℕ, ◌<◌, ◌≤◌, ◌^◌, Bool, true, false, [], ◌∷◌, length}
use Rattle.std.proofs.Common.{refl, ap, sym, subst, ◌∙◌, arith}
use Rattle.std.specs.Prelude.{IsUtf8, Option, Result, Ok, Err, IfNone}
use Rattle.std.specs.Result.{result_ok}
use Rattle.std.specs.List.{list_all}
use Rattle.std.specs.Char.{is_ascii_digit}
use Rattle.std.specs.Str.{all_ascii_digits}
use Rattle.std.specs.Str.Parse.{digits_value, ParsesUnsigned}
use Rattle.std.proofs.lemmas.Fmt.{IsAscii-from_digits}
use Rattle.std.proofs.lemmas.Str.{IsUtf8-from_ascii}
use Rattle.std.proofs.lemmas.Str.Parse.{IsNumeralModel, numerals_by_value, tells_all_ascii_digits, parse_digits}
use Rattle.words.specs.Word.{Word}
use Rattle.cluster_file.specs.Numbers.{is_decimal}

-- words of digits, and what they write
pub digits : IsNumeralModel (λ ds. all_ascii_digits ds ≡ true) (digits_value 10)
digits = numerals_by_value (λ ds. all_ascii_digits ds ≡ true) tells_all_ascii_digits

each_is : (word : Word) → list_all is_ascii_digit word ≡ all_ascii_digits word
each_is [] = refl
each_is (byte ∷ rest) = ap (λ b. is_ascii_digit byte && b) (each_is rest)

right_is : (a b : Bool) → (a && b) ≡ true → b ≡ true
right_is true b e = e
right_is false b e = absurd cc

-- a decimal has digits alone, and one at least
pub decimal_digits : (word : Word) → is_decimal word ≡ true → (all_ascii_digits word ≡ true) × (0 < length word)
decimal_digits [] e = absurd cc
decimal_digits (digit ∷ []) e = (rw e refl, omega arith)
decimal_digits (first ∷ second ∷ rest) e =
    (sym (each_is (first ∷ second ∷ rest)) ∙ right_is _ _ e, omega arith)

-- a decimal is a text
pub decimal_text : (word : Word) → is_decimal word ≡ true → IsUtf8 word
decimal_text word e = IsUtf8-from_ascii word (IsAscii-from_digits word (digits.to word (decimal_digits word e).0))

not_below : (most n : ℕ) → ¬ (n < most) → most ≤ n
not_below most n no_more = grind (arith, no_more)

-- a decimal that no type of 32 bits can have
pub too_great : {E : Type 0} (r : Result ℕ E) (text word : Word) (found : Option ℕ) → is_decimal word ≡ true → text ≡ word
    → ParsesUnsigned 32 10 text r → found ≡ result_ok r → IfNone found (2 ^ 32 ≤ digits_value 10 word)
too_great (Ok n) text word found e same parsed is = rw is tt
too_great (Err fault) text word found e same parsed is =
    let of_word = subst (λ (t : Word). ParsesUnsigned 32 10 t (Err fault)) same parsed in
    let parts = decimal_digits word e in
    let fits_not = parse_digits digits 32 word (Err fault) of_word parts.0 in
    rw is (not_below (2 ^ 32) (digits_value 10 word) (λ lt. fits_not (parts.1, lt)))
