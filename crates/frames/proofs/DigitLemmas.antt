-- Digits that are read are those of the number that was written, and what was written is read again.
use Rattle.std.proofs.Common.{◌≡◌, ℕ, ◌^◌, ◌<◌, ◌≤◌, false, eqb, List, [], ◌∷◌}
use Rattle.std.proofs.Common.{◌++◌, Ok, refl, ap, subst, ◌∙◌, arith, inl, inr}
use Rattle.std.specs.Fmt.{decimal}
use Rattle.std.proofs.lemmas.Bool.{eqb-true, ne_eqb}
use Rattle.frames.specs.declared.error.Fault.{Fault}
use Rattle.frames.specs.declared.error.Fault.TheVariants.{BadNumber}
use Rattle.frames.specs.Reading.{leaving, digits_at}
use Rattle.words.specs.Digits.{with_digit}
use Rattle.words.specs.Parts.{and_then}
use Rattle.words.proofs.DigitLemmas.{Follows, with_digit_ok, with_digit_again, decimal_more}
use Rattle.words.proofs.PartLemmas.{bind_ok}
use Rattle.frames.proofs.ReadPartLemmas.{chosen, ok_is, leaving_ok}

-- the digits of m and what follows are those of the number that was read and CR
abbrev pub DigitsOk : ℕ → ℕ → List ℕ → ℕ × List ℕ → Type 0
DigitsOk most m bytes x = (decimal m ++ bytes ≡ decimal x.0 ++ 13 ∷ x.1) × (x.0 ≤ most)

pub digits_ok : (most : ℕ) (above : Fault) (bytes : List ℕ) (m : ℕ) (x : ℕ × List ℕ) → most < 2 ^ 64 → m ≤ most
    → digits_at most above m bytes ≡ Ok x → DigitsOk most m bytes x
unfolding digits_at
digits_ok most above [] m x lt le e = absurd cc
digits_ok most above (byte ∷ bytes) m x lt le e =
    let one = leaving (with_digit BadNumber most above m byte) bytes in
    let next = λ (more : ℕ × List ℕ). digits_at most above more.0 bytes in
    elim (chosen (eqb byte 13) (Ok (m, bytes)) (and_then one next) (Ok x) e) [
      | inl h ↦ subst (DigitsOk most m (byte ∷ bytes)) (ok_is (m, bytes) x h.1)
          (ap (λ (b : ℕ). decimal m ++ b ∷ bytes) (eqb-true byte 13 h.0), le)
      | inr h ↦
          let n = bind_ok one next x h.1 in
          let d = leaving_ok (with_digit BadNumber most above m byte) bytes n.0 n.1 in
          let f = with_digit_ok BadNumber most above m byte n.0.0 d.0 in
          let rest = digits_ok most above bytes n.0.0 x lt f.1 n.2 in
          (decimal_more m byte n.0.0 bytes f.0 (omega (arith, f.1)) ∙ rest.0, rest.1)
    ]

pub digits_step : (most : ℕ) (above : Fault) (m byte n : ℕ) (tail : List ℕ) → Follows m byte n → n ≤ most
    → digits_at most above m (byte ∷ tail) ≡ digits_at most above n tail
unfolding digits_at
digits_step most above m byte n tail f le =
    let low = f.low in
    let other : eqb byte 13 ≡ false = ne_eqb byte 13 (λ e. omega arith) in
    rw (other, with_digit_again BadNumber most above m byte n f le) refl
