-- A digit that is read is that of the number that was written, and a digit that was written is read again.
use Rattle.std.proofs.Common.{◌≡◌, ℕ, zero, suc, ◌+◌, ◌-◌, ◌*◌, ◌/◌, ◌%◌, ◌^◌, ◌<◌, ◌≤◌, true, false, cond, ltb, leb, eqb, List, [], ◌∷◌}
use Rattle.std.proofs.Common.{◌++◌, Result, Ok, Err, refl, sym, ap, ◌∙◌, append_assoc, arith}
use Rattle.std.specs.Char.{is_ascii_digit}
use Rattle.std.specs.Fmt.{decimal}
use Rattle.std.proofs.lemmas.Bool.{ltb-false, le-ltb, le-leb, leb-true, eqb-false, ne_eqb, and_parts, and_from}
use Rattle.std.proofs.lemmas.Fmt.{decimal_digit, decimal_step}
use Rattle.words.specs.Digits.{first_digit, with_digit}
use Rattle.words.proofs.PartLemmas.{guarded, guarded_above, ok_is}

-- a digit behind those of m, in the value and in the text
pub record Follows (m byte n : ℕ) : Type 0 where
  pub some : 0 < m
  pub low : 48 ≤ byte
  pub high : byte ≤ 57
  pub value : n ≡ 10 * m + (byte - 48)

positive : (m : ℕ) → (m ≡ 0 → ⊥) → 0 < m
positive zero h = absurd (h refl)
positive (suc m) h = omega arith

-- what a digit makes of a number, if it is within the limit
abbrev within : {E : Type 0} → ℕ → E → ℕ → Result ℕ E
within most above value = cond (ltb most value) (Err above) (Ok value)

pub with_digit_ok : {E : Type 0} (bad : E) (most : ℕ) (above : E) (m byte n : ℕ) → with_digit bad most above m byte ≡ Ok n
    → Follows m byte n × (n ≤ most)
unfolding with_digit
with_digit_ok {E = E} bad most above m byte n e =
    let value = 10 * m + (byte - 48) in
    let a = guarded (is_ascii_digit byte) (cond (eqb m 0) (Err bad) (within most above value)) bad n e in
    let b = guarded_above (eqb m 0) bad (within most above value) n a.1 in
    let d = guarded_above (ltb most value) above (Ok value) n b.1 in
    let is : 10 * m + (byte - 48) ≡ n = ok_is {E = E} (10 * m + (byte - 48)) n d.1 in
    let digit = and_parts _ _ a.0 in
    let below = ltb-false _ _ d.0 in
    let other = eqb-false m 0 b.0 in
    (record { some = positive m other; low = leb-true _ _ digit.0; high = leb-true _ _ digit.1; value = sym is }, omega arith)

pub is_digit : (byte : ℕ) → 48 ≤ byte → byte ≤ 57 → is_ascii_digit byte ≡ true
is_digit byte low high = and_from _ _ (le-leb _ _ low) (le-leb _ _ high)

pub with_digit_again : {E : Type 0} (bad : E) (most : ℕ) (above : E) (m byte n : ℕ) → Follows m byte n → n ≤ most
    → with_digit bad most above m byte ≡ Ok n
unfolding with_digit
with_digit_again bad most above m byte n f le =
    let some = f.some in
    let other : eqb m 0 ≡ false = ne_eqb m 0 (λ e. omega arith) in
    let below : ltb most (10 * m + (byte - 48)) ≡ false = le-ltb _ _ (omega (arith, f.value)) in
    rw (is_digit byte f.low f.high, other, below) (ap (λ (k : ℕ). Ok k) (sym f.value))

pub decimal_more : (m byte n : ℕ) (bytes : List ℕ) → Follows m byte n → n < 2 ^ 64 → decimal m ++ byte ∷ bytes ≡ decimal n ++ bytes
decimal_more m byte n bytes f lt =
    let some = f.some in
    let low = f.low in
    let high = f.high in
    let value = f.value in
    let front : n / 10 ≡ m = omega arith in
    let last : 48 + n % 10 ≡ byte = omega arith in
    let step : decimal n ≡ decimal m ++ byte ∷ [] = decimal_step n (omega arith) lt
    ∙ ap (λ (k : ℕ). decimal k ++ (48 + n % 10) ∷ []) front
    ∙ ap (λ (k : ℕ). decimal m ++ k ∷ []) last in
    sym (ap (λ (ds : List ℕ). ds ++ bytes) step ∙ append_assoc (decimal m) (byte ∷ []) bytes)

-- a first digit is the number that it writes
pub first_ok : {E : Type 0} (bad : E) (byte first : ℕ) → first_digit bad byte ≡ Ok first → (decimal first ≡ byte ∷ []) × (first ≤ 9)
unfolding first_digit
first_ok {E = E} bad byte first e =
    let digit = guarded (is_ascii_digit byte) (Ok (byte - 48)) bad first e in
    let range = and_parts (leb 48 byte) (leb byte 57) digit.0 in
    let low : 48 ≤ byte = leb-true 48 byte range.0 in
    let high : byte ≤ 57 = leb-true byte 57 range.1 in
    let value : byte - 48 ≡ first = ok_is {E = E} (byte - 48) first digit.1 in
    let back : 48 + first ≡ byte = omega arith in
    (decimal_digit first (omega arith) ∙ ap (λ (b : ℕ). b ∷ []) back, omega arith)
