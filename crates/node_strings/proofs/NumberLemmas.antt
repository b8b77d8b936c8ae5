-- A number that is read is the number that was written, and what was written is read again.
use Rattle.std.proofs.Common.{◌≡◌, ℕ, suc, ◌+◌, ◌-◌, ◌/◌, ◌%◌, ◌^◌, ◌<◌, ◌≤◌, List, [], ◌∷◌}
use Rattle.std.proofs.Common.{length, get_or, drop, drop-cons, ◌++◌, Result, Ok, Err, refl, sym, ap, subst, ◌∙◌, append_assoc, arith}
use Rattle.std.specs.Fmt.{decimal}
use Rattle.std.specs.Prelude.{IfOk}
use Rattle.std.proofs.lemmas.Fmt.{decimal_by_steps}
use Rattle.std.proofs.lemmas.List.{append-nil, drop_all}
use Rattle.node_strings.specs.Numbers.{digits_from, number_up_to}
use Rattle.words.specs.Digits.{first_digit, with_digit}
use Rattle.words.proofs.DigitLemmas.{Follows, with_digit_ok, is_digit, with_digit_again, decimal_more, first_ok}
use Rattle.words.proofs.PartLemmas.{bind_ok, ok_is}

-- ---- what is read was written

digits_ok : {E : Type 0} (bad above : E) (most : ℕ) (bytes : List ℕ) (m n : ℕ) → most < 2 ^ 64 → m ≤ most
    → digits_from bad most above m bytes ≡ Ok n → (decimal m ++ bytes ≡ decimal n) × (n ≤ most)
unfolding digits_from
digits_ok bad above most [] m n lt le e =
    subst (λ (k : ℕ). (decimal m ++ [] ≡ decimal k) × (k ≤ most)) (ok_is m n e) (append-nil (decimal m), le)
digits_ok bad above most (byte ∷ bytes) m n lt le e =
    let a = bind_ok (with_digit bad most above m byte) (λ (more : ℕ). digits_from bad most above more bytes) n e in
    let f = with_digit_ok bad most above m byte a.0 a.1 in
    let rest = digits_ok bad above most bytes a.0 n lt f.1 a.2 in
    (decimal_more m byte a.0 bytes f.0 (omega (arith, f.1)) ∙ rest.0, rest.1)

pub number_ok : {E : Type 0} (bad above : E) (most : ℕ) (bytes : List ℕ) (n : ℕ) → 9 ≤ most → most < 2 ^ 64
    → number_up_to bad most above bytes ≡ Ok n
    → (bytes ≡ decimal n) × (n ≤ most)
unfolding number_up_to
number_ok bad above most [] n nine lt e = absurd cc
number_ok bad above most (byte ∷ bytes) n nine lt e =
    let a = bind_ok (first_digit bad byte) (λ (first : ℕ). digits_from bad most above first bytes) n e in
    let digit = first_ok bad byte a.0 a.1 in
    let small = digit.1 in
    let rest = digits_ok bad above most bytes a.0 n lt (omega arith) a.2 in
    (sym (ap (λ (ds : List ℕ). ds ++ bytes) digit.0) ∙ rest.0, rest.1)

-- ---- what was written is read

abbrev Starts : {E : Type 0} → E → E → ℕ → ℕ → List ℕ → Type 0
Starts bad above most n ds = n ≤ most → (tail : List ℕ) → number_up_to bad most above (ds ++ tail) ≡ digits_from bad most above n tail

start_one : {E : Type 0} (bad above : E) (most n : ℕ) → n < 10 → Starts bad above most n ((48 + n) ∷ [])
unfolding number_up_to first_digit
start_one bad above most n lt le tail =
    let value : 48 + n - 48 ≡ n = omega arith in
    rw (is_digit (48 + n) (omega arith) (omega arith), value) refl

digits_step : {E : Type 0} (bad above : E) (most m byte n : ℕ) (tail : List ℕ) → Follows m byte n → n ≤ most
    → digits_from bad most above m (byte ∷ tail) ≡ digits_from bad most above n tail
unfolding digits_from
digits_step bad above most m byte n tail f le = rw (with_digit_again bad most above m byte n f le) refl

start_more : {E : Type 0} (bad above : E) (most n : ℕ) (ds : List ℕ) → 10 ≤ n → Starts bad above most (n / 10) ds
    → Starts bad above most n (ds ++ (48 + n % 10) ∷ [])
start_more bad above most n ds ge before le tail =
    let f : Follows (n / 10) (48 + n % 10) n = record { some = omega arith; low = omega arith; high = omega arith; value = omega arith } in
    ap (number_up_to bad most above) (append_assoc ds ((48 + n % 10) ∷ []) tail)
    ∙ before (omega arith) ((48 + n % 10) ∷ tail)
    ∙ digits_step bad above most (n / 10) (48 + n % 10) n tail f le

pub number_again : {E : Type 0} (bad above : E) (most n : ℕ) → n ≤ most → most < 2 ^ 64 → number_up_to bad most above (decimal n) ≡ Ok n
unfolding digits_from
number_again bad above most n le lt =
    ap (number_up_to bad most above) (sym (append-nil (decimal n)))
    ∙ decimal_by_steps (Starts bad above most) (start_one bad above most) (start_more bad above most) n (omega arith) le []

-- ---- as a loop reads digits

digits_go : {E : Type 0} (bad above : E) (most n byte more : ℕ) (rest : List ℕ) → with_digit bad most above n byte ≡ Ok more
    → digits_from bad most above n (byte ∷ rest) ≡ digits_from bad most above more rest
unfolding digits_from
digits_go bad above most n byte more rest e = rw e refl

digits_stop : {E : Type 0} (bad above : E) (most n byte : ℕ) (fault : E) (rest : List ℕ) → with_digit bad most above n byte ≡ Err fault
    → digits_from bad most above n (byte ∷ rest) ≡ Err fault
unfolding digits_from
digits_stop bad above most n byte fault rest e = rw e refl

digits_end : {E : Type 0} (bad above : E) (most n : ℕ) → digits_from bad most above n [] ≡ Ok n
unfolding digits_from
digits_end bad above most n = refl

pub digits_go_on : {E : Type 0} (bad above : E) (most first n more i : ℕ) (bytes : List ℕ) → i < length bytes
    → Ok more ≡ with_digit bad most above n (get_or bytes i 0)
    → digits_from bad most above n (drop i bytes) ≡ digits_from bad most above first bytes
    → digits_from bad most above more (drop (i + 1) bytes) ≡ digits_from bad most above first bytes
digits_go_on bad above most first n more i bytes lt e so_far =
    let next : suc i ≡ i + 1 = omega arith in
    sym (ap (digits_from bad most above n) (drop-cons bytes i 0 lt)
    ∙ digits_go bad above most n (get_or bytes i 0) more (drop (suc i) bytes) (sym e)
    ∙ ap (λ (k : ℕ). digits_from bad most above more (drop k bytes)) next)
    ∙ so_far

pub digits_stop_at : {E : Type 0} (bad above : E) (most first n i : ℕ) (fault : E) (bytes : List ℕ) → i < length bytes
    → Err fault ≡ with_digit bad most above n (get_or bytes i 0)
    → digits_from bad most above n (drop i bytes) ≡ digits_from bad most above first bytes
    → Err fault ≡ digits_from bad most above first bytes
digits_stop_at bad above most first n i fault bytes lt e so_far =
    sym (ap (digits_from bad most above n) (drop-cons bytes i 0 lt)
    ∙ digits_stop bad above most n (get_or bytes i 0) fault (drop (suc i) bytes) (sym e))
    ∙ so_far

pub digits_end_at : {E : Type 0} (bad above : E) (most first n i : ℕ) (bytes : List ℕ) → length bytes ≤ i
    → digits_from bad most above n (drop i bytes) ≡ digits_from bad most above first bytes → Ok n ≡ digits_from bad most above first bytes
digits_end_at bad above most first n i bytes le so_far =
    sym (ap (digits_from bad most above n) (drop_all i bytes le) ∙ digits_end bad above most n) ∙ so_far

-- ---- what was read

pub is_found : {E : Type 0} (bad above : E) (most : ℕ) (bytes : List ℕ) (result : Result ℕ E) → 9 ≤ most → most < 2 ^ 64
    → result ≡ number_up_to bad most above bytes → IfOk result (λ n. bytes ≡ decimal n)
is_found bad above most bytes (Ok n) nine lt e = (number_ok bad above most bytes n nine lt (sym e)).0
is_found bad above most bytes (Err fault) nine lt e = tt

pub is_only : {E : Type 0} (bad above : E) (most : ℕ) (bytes : List ℕ) (result : Result ℕ E) → most < 2 ^ 64
    → result ≡ number_up_to bad most above bytes → (n : ℕ) → n ≤ most → bytes ≡ decimal n → result ≡ Ok n
is_only bad above most bytes result lt e n le is = e ∙ ap (number_up_to bad most above) is ∙ number_again bad above most n le lt
