-- Strings that are read are those that were written, and what was written is read again.
use Rattle.std.proofs.Common.{◌≡◌, ℕ, zero, suc, ◌^◌, ◌<◌, ◌≤◌, List, [], ◌∷◌, ◌++◌, length}
use Rattle.std.proofs.Common.{Ok, refl, sym, ap, subst, ◌∙◌, append_assoc, arith}
use Rattle.std.specs.List.{flat_map, AllByRecursion}
use Rattle.std.specs.Fmt.{decimal}
use Rattle.std.proofs.lemmas.List.Concat.{flat_map-cons}
use Rattle.frames.specs.declared.error.Fault.TheVariants.{BadType, StringTooLong}
use Rattle.frames.specs.declared.limits.TheConstants.{LONGEST_STRING}
use Rattle.frames.specs.Frame.{IsShort, line_end, string_bytes}
use Rattle.frames.specs.Reading.{byte_at, expected_at, line_end_at, bytes_at, number_at, string_at, strings_at}
use Rattle.frames.proofs.RestAfterPartLemmas.{after_mark, after_length, after_string, after_one}
use Rattle.frames.proofs.ReadPartLemmas.{ok_is, expected_ok, line_end_ok, bytes_ok, line_end_again, bytes_again}
use Rattle.frames.proofs.NumberRoundTripLemmas.{number_ok, number_again}
use Rattle.words.proofs.PartLemmas.{bind_ok}

-- the limit is below 2^64
limit : (n : ℕ) → n ≡ 16842752 → (9 ≤ n) × (n < 2 ^ 64)
limit n e = (omega arith, omega arith)

-- ---- one string

abbrev IsString : List ℕ → List ℕ × List ℕ → Type 0
IsString bytes x = (bytes ≡ string_bytes x.0 ++ x.1) × IsShort x.0

string_ok : (bytes : List ℕ) (x : List ℕ × List ℕ) → string_at bytes ≡ Ok x → IsString bytes x
unfolding string_at
string_ok bytes x e =
    let mark = bind_ok (expected_at 36 BadType bytes) after_mark x e in
    let n = bind_ok (number_at LONGEST_STRING StringTooLong mark.0.1) after_length x mark.2 in
    let s = bind_ok (bytes_at n.0.0 n.0.1) after_string x n.2 in
    let lf = bind_ok (line_end_at s.0.1) (λ lf. Ok (s.0.0, lf.1)) x s.2 in
    let within = limit LONGEST_STRING refl in
    let number = number_ok LONGEST_STRING StringTooLong mark.0.1 n.0 within.0 within.1 n.1 in
    let text = bytes_ok n.0.0 n.0.1 s.0 s.1 in
    let behind : s.0.1 ≡ line_end ++ lf.0.1 = line_end_ok s.0.1 lf.0 lf.1 in
    let string : n.0.1 ≡ (s.0.0 ++ line_end) ++ lf.0.1 =
    text.0 ∙ ap (λ (rest : List ℕ). s.0.0 ++ rest) behind ∙ sym (append_assoc s.0.0 line_end lf.0.1) in
    let digits = decimal (length s.0.0) ++ line_end in
    let whole : bytes ≡ string_bytes s.0.0 ++ lf.0.1 = expected_ok 36 BadType bytes mark.0 mark.1
    ∙ ap (λ (rest : List ℕ). 36 ∷ rest) (number.0
    ∙ ap (λ (k : ℕ). (decimal k ++ line_end) ++ n.0.1) (sym text.1)
    ∙ ap (λ (rest : List ℕ). (decimal (length s.0.0) ++ line_end) ++ rest) string
    ∙ sym (append_assoc digits (s.0.0 ++ line_end) lf.0.1)) in
    let le = number.1 in
    let len = text.1 in
    let short : length s.0.0 ≤ LONGEST_STRING = omega arith in
    subst (IsString bytes) (ok_is (s.0.0, lf.0.1) x lf.2) (whole, short)

string_again : (s rest : List ℕ) → IsShort s → string_at (string_bytes s ++ rest) ≡ Ok (s, rest)
unfolding string_at expected_at byte_at
string_again s rest short =
    let digits = decimal (length s) ++ line_end in
    let regrouped : string_bytes s ++ rest ≡ 36 ∷ ((decimal (length s) ++ line_end) ++ (s ++ (line_end ++ rest))) =
    ap (λ (r : List ℕ). 36 ∷ r) (append_assoc digits (s ++ line_end) rest
    ∙ ap (λ (r : List ℕ). (decimal (length s) ++ line_end) ++ r) (append_assoc s line_end rest)) in
    let number = number_again LONGEST_STRING StringTooLong (length s) (s ++ (line_end ++ rest)) short (limit LONGEST_STRING refl).1 in
    ap string_at regrouped ∙ rw (number, bytes_again s (line_end ++ rest), line_end_again rest) refl

-- ---- several strings

abbrev pub AreStrings : ℕ → List ℕ → List (List ℕ) × List ℕ → Type 0
AreStrings n bytes x = (bytes ≡ flat_map string_bytes x.0 ++ x.1) × (length x.0 ≡ n) × AllByRecursion IsShort x.0

pub strings_ok : (n : ℕ) (bytes : List ℕ) (x : List (List ℕ) × List ℕ) → strings_at n bytes ≡ Ok x → AreStrings n bytes x
unfolding strings_at
strings_ok zero bytes x e = subst (AreStrings 0 bytes) (ok_is ([], bytes) x e) (refl, refl, tt)
strings_ok (suc n) bytes x e =
    let a = bind_ok (string_at bytes) (after_one n) x e in
    let b = bind_ok (strings_at n a.0.1) (λ others. Ok (a.0.0 ∷ others.0, others.1)) x a.2 in
    let first = string_ok bytes a.0 a.1 in
    let second = strings_ok n a.0.1 b.0 b.1 in
    let whole : bytes ≡ flat_map string_bytes (a.0.0 ∷ b.0.0) ++ b.0.1 = first.0
    ∙ ap (λ (rest : List ℕ). string_bytes a.0.0 ++ rest) second.0
    ∙ sym (append_assoc (string_bytes a.0.0) (flat_map string_bytes b.0.0) b.0.1)
    ∙ ap (λ (r : List ℕ). r ++ b.0.1) (sym (flat_map-cons string_bytes a.0.0 b.0.0)) in
    subst (AreStrings (suc n) bytes) (ok_is (a.0.0 ∷ b.0.0, b.0.1) x b.2) (whole, ap suc second.1, (first.1, second.2))

pub strings_again : (ss : List (List ℕ)) (rest : List ℕ) → AllByRecursion IsShort ss
    → strings_at (length ss) (flat_map string_bytes ss ++ rest) ≡ Ok (ss, rest)
unfolding strings_at
strings_again [] rest short = refl
strings_again (s ∷ ss) rest short =
    let regrouped : flat_map string_bytes (s ∷ ss) ++ rest ≡ string_bytes s ++ (flat_map string_bytes ss ++ rest) =
    ap (λ (r : List ℕ). r ++ rest) (flat_map-cons string_bytes s ss) ∙ append_assoc (string_bytes s) (flat_map string_bytes ss) rest in
    ap (strings_at (suc (length ss))) regrouped
    ∙ rw (string_again s (flat_map string_bytes ss ++ rest) short.0, strings_again ss rest short.1) refl
