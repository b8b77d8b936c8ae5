-- A number that is read is the number that was written, and what was written is read again.
use Rattle.std.proofs.Common.{◌≡◌, ℕ, ◌+◌, ◌-◌, ◌/◌, ◌%◌, ◌^◌, ◌<◌, ◌≤◌, List, [], ◌∷◌, ◌++◌}
use Rattle.std.proofs.Common.{Ok, Err, refl, sym, ap, subst, ◌∙◌, append_assoc, arith}
use Rattle.std.specs.Fmt.{decimal}
use Rattle.std.proofs.lemmas.Fmt.{decimal_by_steps}
use Rattle.frames.specs.declared.error.Fault.{Fault}
use Rattle.frames.specs.declared.error.Fault.TheVariants.{BadNumber, NoLineEnd}
use Rattle.frames.specs.Frame.{line_end}
use Rattle.frames.specs.Reading.{Parsed, leaving, byte_at, expected_at, digits_at, number_at}
use Rattle.frames.proofs.RestAfterPartLemmas.{after_digits, after_first, after_byte}
use Rattle.frames.proofs.ReadPartLemmas.{ok_is, leaving_ok, byte_ok, expected_ok}
use Rattle.words.specs.Digits.{first_digit}
use Rattle.words.specs.Parts.{and_then}
use Rattle.words.proofs.DigitLemmas.{Follows, is_digit, first_ok}
use Rattle.words.proofs.PartLemmas.{bind_ok}
use Rattle.frames.proofs.DigitLemmas.{digits_ok, digits_step}

-- ---- what is read was written

pub number_ok : (most : ℕ) (above : Fault) (bytes : List ℕ) (x : ℕ × List ℕ) → 9 ≤ most → most < 2 ^ 64
    → number_at most above bytes ≡ Ok x → (bytes ≡ (decimal x.0 ++ line_end) ++ x.1) × (x.0 ≤ most)
unfolding number_at
number_ok most above bytes x nine lt e =
    let byte = bind_ok (byte_at bytes) (after_byte most above) x e in
    let first = bind_ok (leaving (first_digit BadNumber byte.0.0) byte.0.1) (after_first most above) x byte.2 in
    let n = bind_ok (digits_at most above first.0.0 first.0.1) after_digits x first.2 in
    let lf = bind_ok (expected_at 10 NoLineEnd n.0.1) (λ lf. Ok (n.0.0, lf.1)) x n.2 in
    let left = leaving_ok (first_digit BadNumber byte.0.0) byte.0.1 first.0 first.1 in
    let digit = first_ok BadNumber byte.0.0 first.0.0 left.0 in
    let small = digit.1 in
    let rest = digits_ok most above first.0.1 first.0.0 n.0 lt (omega arith) n.1 in
    let whole : bytes ≡ (decimal n.0.0 ++ line_end) ++ lf.0.1 = byte_ok bytes byte.0 byte.1
    ∙ ap (λ (rest : List ℕ). byte.0.0 ∷ rest) left.1
    ∙ sym (ap (λ (ds : List ℕ). ds ++ first.0.1) digit.0)
    ∙ rest.0
    ∙ ap (λ (left : List ℕ). decimal n.0.0 ++ 13 ∷ left) (expected_ok 10 NoLineEnd n.0.1 lf.0 lf.1)
    ∙ sym (append_assoc (decimal n.0.0) line_end lf.0.1) in
    subst (λ (y : ℕ × List ℕ). (bytes ≡ (decimal y.0 ++ line_end) ++ y.1) × (y.0 ≤ most)) (ok_is (n.0.0, lf.0.1) x lf.2) (whole, rest.1)

-- ---- what was written is read

-- a number, but for its line end
abbrev start_at : ℕ → Fault → List ℕ → Parsed ℕ
start_at most above bytes =
    and_then (byte_at bytes) (λ byte.
    and_then (leaving (first_digit BadNumber byte.0) byte.1) (λ first. digits_at most above first.0 first.1))

abbrev Starts : ℕ → Fault → ℕ → List ℕ → Type 0
Starts most above n ds = n ≤ most → (tail : List ℕ) → start_at most above (ds ++ tail) ≡ digits_at most above n tail

start_one : (most : ℕ) (above : Fault) (n : ℕ) → n < 10 → Starts most above n ((48 + n) ∷ [])
unfolding byte_at first_digit
start_one most above n lt le tail =
    let value : 48 + n - 48 ≡ n = omega arith in
    rw (is_digit (48 + n) (omega arith) (omega arith), value) refl

start_more : (most : ℕ) (above : Fault) (n : ℕ) (ds : List ℕ) → 10 ≤ n → Starts most above (n / 10) ds
    → Starts most above n (ds ++ (48 + n % 10) ∷ [])
start_more most above n ds ge before le tail =
    let f : Follows (n / 10) (48 + n % 10) n = record { some = omega arith; low = omega arith; high = omega arith; value = omega arith } in
    ap (start_at most above) (append_assoc ds ((48 + n % 10) ∷ []) tail)
    ∙ before (omega arith) ((48 + n % 10) ∷ tail)
    ∙ digits_step most above (n / 10) (48 + n % 10) n tail f le

starts : (most : ℕ) (above : Fault) (n : ℕ) → n < 2 ^ 64 → Starts most above n (decimal n)
starts most above n lt = decimal_by_steps (Starts most above) (start_one most above) (start_more most above) n lt

regroup_one : {A B C : Type 0} (r : Parsed A) (f : A × List ℕ → Parsed B) (g : B × List ℕ → Parsed C)
    → and_then r (λ a. and_then (f a) g) ≡ and_then (and_then r f) g
regroup_one (Ok a) f g = refl
regroup_one (Err e) f g = refl

-- the same parts, grouped otherwise
regroup : {A B C D : Type 0} (r : Parsed A) (f : A × List ℕ → Parsed B) (g : B × List ℕ → Parsed C) (h : C × List ℕ → Parsed D)
    → and_then r (λ a. and_then (f a) (λ b. and_then (g b) h)) ≡ and_then (and_then r (λ a. and_then (f a) g)) h
regroup (Ok a) f g h = regroup_one (f a) g h
regroup (Err e) f g h = refl

pub number_again : (most : ℕ) (above : Fault) (n : ℕ) (rest : List ℕ) → n ≤ most → most < 2 ^ 64
    → number_at most above ((decimal n ++ line_end) ++ rest) ≡ Ok (n, rest)
unfolding number_at digits_at expected_at byte_at
number_again most above n rest le lt =
    let text = decimal n ++ (13 ∷ 10 ∷ rest) in
    ap (number_at most above) (append_assoc (decimal n) line_end rest)
    ∙ regroup (byte_at text) (λ byte. leaving (first_digit BadNumber byte.0) byte.1)
    (λ first. digits_at most above first.0 first.1) after_digits
    ∙ ap (λ (r : Parsed ℕ). and_then r after_digits) (starts most above n (omega arith) le (13 ∷ 10 ∷ rest))
