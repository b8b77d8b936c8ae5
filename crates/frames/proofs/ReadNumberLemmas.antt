-- What the functions that read numbers give.
use Rattle.std.proofs.Common.{◌≡◌, ℕ, List, [], ◌∷◌, Result, Ok, Err, refl, ap, ◌∙◌}
use Rattle.std.proofs.lemmas.Bool.{eq-eqb, ne_eqb}
use Rattle.frames.specs.declared.error.Fault.{Fault}
use Rattle.frames.specs.declared.error.Fault.TheVariants.{BadNumber, NoLineEnd}
use Rattle.frames.specs.declared.error.FrameError.{FrameError}
use Rattle.frames.specs.declared.error.FrameError.TheVariants as errors
use Rattle.frames.specs.Reading.{Parsed, leaving, Between, Returns, byte_at, expected_at}
use Rattle.frames.specs.Reading.{digits_at, number_at}
use Rattle.frames.proofs.ReadPartLemmas.{byte_ok}
use Rattle.frames.proofs.ReadSequenceLemmas.{Left, Between_then, Between_as, then_ok, then_last, then_err, fails, succeeds, Returns_as}
use Rattle.frames.proofs.RestAfterPartLemmas.{after_digits, after_first, after_byte}
use Rattle.words.specs.Digits.{first_digit, with_digit}
use Rattle.words.specs.Parts.{and_then}

-- ---- digits

digits_ended : (most : ℕ) (above : Fault) (n : ℕ) (xs : List ℕ) (p : Fault × List ℕ) → byte_at xs ≡ Err p
    → digits_at most above n xs ≡ Err p
unfolding byte_at digits_at
digits_ended most above n [] p e = cc
digits_ended most above n (b ∷ xs) p e = absurd cc

digits_go : (most : ℕ) (above : Fault) (n byte m : ℕ) (ys : List ℕ) → (byte ≡ 13 → ⊥) → with_digit BadNumber most above n byte ≡ Ok m
    → digits_at most above n (byte ∷ ys) ≡ digits_at most above m ys
unfolding digits_at
digits_go most above n byte m ys other h = rw (ne_eqb byte 13 other, h) refl

digits_fault : (most : ℕ) (above : Fault) (n byte : ℕ) (fault : Fault) (ys : List ℕ) → (byte ≡ 13 → ⊥)
    → with_digit BadNumber most above n byte ≡ Err fault → digits_at most above n (byte ∷ ys) ≡ Err (fault, ys)
unfolding digits_at
digits_fault most above n byte fault ys other h = rw (ne_eqb byte 13 other, h) refl

digits_cr : (most : ℕ) (above : Fault) (n byte : ℕ) (ys : List ℕ) → byte ≡ 13 → digits_at most above n (byte ∷ ys) ≡ Ok (n, ys)
unfolding digits_at
digits_cr most above n byte ys h = rw (eq-eqb byte 13 h) refl

-- reading on from n and the byte behind its digits gives what reading from the first digit gives
abbrev pub IsSoFar : ℕ → Fault → ℕ → ℕ → ℕ → Left → Left → Type 0
IsSoFar most above first n byte old new = Between (λ xs ys. digits_at most above first xs ≡ digits_at most above n (byte ∷ ys)) old new

pub digits_init : (most : ℕ) (above : Fault) (first : ℕ) (old new : Left) (byte : ℕ) → Returns byte_at old new (succeeds byte)
    → IsSoFar most above first first byte old new
digits_init most above first old new byte p = Between_as old new (λ xs ys a. ap (digits_at most above first) (byte_ok xs (byte, ys) a)) p

pub digits_first_err : (most : ℕ) (above : Fault) (first : ℕ) (old new : Left) (e : FrameError) → Returns byte_at old new (fails ℕ e)
    → Returns (digits_at most above first) old new (fails ℕ e)
digits_first_err most above first old new (errors.Fault fault) p =
    Between_as old new (λ xs ys a. digits_ended most above first xs (fault, ys) a) p
digits_first_err most above first old new errors.NoMemory p = tt
digits_first_err most above first old new (errors.Failed error) p = tt

pub digits_preserved : (most : ℕ) (above : Fault) (first n byte m next : ℕ) (old mid new : Left) → IsSoFar most above first n byte old mid
    → (byte ≡ 13 → ⊥) → with_digit BadNumber most above n byte ≡ Ok m → Returns byte_at mid new (succeeds next)
    → IsSoFar most above first m next old new
digits_preserved most above first n byte m next old mid new p other h q =
    Between_then old mid new (λ xs ys zs a b. a
    ∙ digits_go most above n byte m ys other h
    ∙ ap (digits_at most above m) (byte_ok ys (next, zs) b)) p q

pub digits_next_err : (most : ℕ) (above : Fault) (first n byte m : ℕ) (old mid new : Left) (e : FrameError)
    → IsSoFar most above first n byte old mid → (byte ≡ 13 → ⊥) → with_digit BadNumber most above n byte ≡ Ok m
    → Returns byte_at mid new (fails ℕ e) → Returns (digits_at most above first) old new (fails ℕ e)
digits_next_err most above first n byte m old mid new (errors.Fault fault) p other h q =
    Between_then old mid new (λ xs ys zs a b. a
    ∙ digits_go most above n byte m ys other h
    ∙ digits_ended most above m ys (fault, zs) b) p q
digits_next_err most above first n byte m old mid new errors.NoMemory p other h q = tt
digits_next_err most above first n byte m old mid new (errors.Failed error) p other h q = tt

pub digits_bad : (most : ℕ) (above : Fault) (first n byte : ℕ) (fault : Fault) (old new : Left) → IsSoFar most above first n byte old new
    → (byte ≡ 13 → ⊥) → with_digit BadNumber most above n byte ≡ Err fault
    → Returns (digits_at most above first) old new (fails ℕ (errors.Fault fault))
digits_bad most above first n byte fault old new p other h =
    Between_as old new (λ xs ys a. a ∙ digits_fault most above n byte fault ys other h) p

pub digits_done : (most : ℕ) (above : Fault) (first n byte : ℕ) (old new : Left) → IsSoFar most above first n byte old new → byte ≡ 13
    → Returns (digits_at most above first) old new (succeeds n)
digits_done most above first n byte old new p h = Between_as old new (λ xs ys a. a ∙ digits_cr most above n byte ys h) p

-- ---- a number

pub number_err : (most : ℕ) (above : Fault) (old new : Left) (e : FrameError) → Returns byte_at old new (fails ℕ e)
    → Returns (number_at most above) old new (fails ℕ e)
unfolding number_at
number_err most above old new e p = then_err byte_at (after_byte most above) old new e p

pub number_bad : (most : ℕ) (above : Fault) (old new : Left) (byte : ℕ) (fault : Fault) → Returns byte_at old new (succeeds byte)
    → first_digit BadNumber byte ≡ Err fault → Returns (number_at most above) old new (fails ℕ (errors.Fault fault))
unfolding number_at
number_bad most above old new byte fault p h = Between_as old new (λ xs ys a. ap (λ (r : Parsed ℕ). and_then r (after_byte most above)) a
    ∙ ap (λ (r : Result ℕ Fault). and_then (leaving r ys) (after_first most above)) h) p

-- a first digit, and what follows it
pub number_from : (most : ℕ) (above : Fault) (old mid new : Left) (byte first : ℕ) (r : Result ℕ FrameError)
    → Returns byte_at old mid (succeeds byte) → first_digit BadNumber byte ≡ Ok first
    → Returns (λ ys. after_first most above (first, ys)) mid new r
    → Returns (number_at most above) old new r
unfolding number_at
number_from most above old mid new byte first r p h q = then_ok byte_at (after_byte most above) old mid new byte r p
    (Returns_as (λ ys. after_byte most above (byte, ys)) (λ ys. after_first most above (first, ys)) mid new r
    (λ ys. ap (λ (s : Result ℕ Fault). and_then (leaving s ys) (after_first most above)) h) q)

pub number_digits_err : (most : ℕ) (above : Fault) (first : ℕ) (mid new : Left) (e : FrameError)
    → Returns (digits_at most above first) mid new (fails ℕ e) → Returns (λ ys. after_first most above (first, ys)) mid new (fails ℕ e)
number_digits_err most above first mid new e p = then_err (digits_at most above first) after_digits mid new e p

pub number_line_err : (most : ℕ) (above : Fault) (first n : ℕ) (old mid new : Left) (e : FrameError)
    → Returns (digits_at most above first) old mid (succeeds n) → Returns (expected_at 10 NoLineEnd) mid new (fails ℕ e)
    → Returns (λ ys. after_first most above (first, ys)) old new (fails ℕ e)
number_line_err most above first n old mid new e p q =
    then_ok (digits_at most above first) after_digits old mid new n (fails ℕ e) p
    (then_err (expected_at 10 NoLineEnd) (λ lf. Ok (n, lf.1)) mid new e q)

pub number_done : (most : ℕ) (above : Fault) (first n lf : ℕ) (old mid new : Left)
    → Returns (digits_at most above first) old mid (succeeds n) → Returns (expected_at 10 NoLineEnd) mid new (succeeds lf)
    → Returns (λ ys. after_first most above (first, ys)) old new (succeeds n)
number_done most above first n lf old mid new p q =
    then_ok (digits_at most above first) after_digits old mid new n (succeeds n) p
    (then_last (expected_at 10 NoLineEnd) (λ lf. Ok (n, lf.1)) mid new lf n (λ ys. refl) q)
