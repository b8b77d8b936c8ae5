-- Bytes that are cut short within a frame give the fault UnexpectedEnd.
use Rattle.std.proofs.Common.{◌≡◌, ◌⊎◌, ℕ, zero, suc, ◌≤◌, Bool, true, false, cond, ltb, eqb, List, [], ◌∷◌, ◌++◌}
use Rattle.std.proofs.Common.{length, take, drop, Option, Some, Result, Ok, Err, refl, sym, ap, subst, ◌∙◌}
use Rattle.std.proofs.Common.{arith, inl, inr}
use Rattle.std.proofs.lemmas.Bool.{ltb-false, le-ltb}
use Rattle.std.proofs.lemmas.List.{append-nil, length-append, take-append-le, drop-append-le}
use Rattle.frames.specs.declared.error.Fault.{Fault}
use Rattle.frames.specs.declared.error.Fault.TheVariants.{BadNumber, NoLineEnd, UnexpectedEnd, StringTooLong, TooManyStrings, BadType}
use Rattle.frames.specs.declared.limits.TheConstants.{MOST_STRINGS, LONGEST_STRING}
use Rattle.frames.specs.Frame.{frame_bytes}
use Rattle.frames.specs.Laws.{CutEndsEarly}
use Rattle.frames.specs.Reading.{Parsed, leaving, byte_at, expected_at, line_end_at, bytes_at}
use Rattle.frames.specs.Reading.{digits_at, number_at, string_at, strings_at, array_at, frame_at}
use Rattle.frames.proofs.FrameRoundTripLemmas.{frame_again}
use Rattle.frames.proofs.ReadPartLemmas.{ok_is}
use Rattle.frames.proofs.RestAfterPartLemmas.{after_digits, after_first, after_byte, after_string, after_length, after_mark}
use Rattle.frames.proofs.RestAfterPartLemmas.{after_one, after_count, as_frame}
use Rattle.words.specs.Digits.{first_digit, with_digit}
use Rattle.words.specs.Parts.{and_then}
use Rattle.words.proofs.PartLemmas.{bind_ok}

-- what is read of a front of some bytes, of which `v` is read in all: `v` too, with the same bytes behind it, or their end
abbrev OfFront : {A : Type 0} → Parsed A → (ys : List ℕ) → A → (rest : List ℕ) → Type 0
OfFront r ys v rest = ((left : List ℕ) × (r ≡ Ok (v, left)) × (rest ≡ left ++ ys)) ⊎ (r ≡ Err (UnexpectedEnd, []))

-- a part reads its bytes from left to right, so that fewer bytes give the same, or end too early
abbrev ReadsInOrder : {A : Type 0} → (List ℕ → Parsed A) → Type 0
ReadsInOrder {A = A} part = (xs ys : List ℕ) (v : A) (rest : List ℕ) → part (xs ++ ys) ≡ Ok (v, rest) → OfFront (part xs) ys v rest

ok_and_then : {A B : Type 0} (r : Parsed A) (f : A × List ℕ → Parsed B) (x : A × List ℕ) → r ≡ Ok x → and_then r f ≡ f x
ok_and_then r f x e = rw e refl

err_and_then : {A B : Type 0} (r : Parsed A) (f : A × List ℕ → Parsed B) (d : Fault × List ℕ) → r ≡ Err d → and_then r f ≡ Err d
err_and_then r f d e = rw e refl

-- one part after another
in_turn : {A B : Type 0} (part : List ℕ → Parsed A) (f : A × List ℕ → Parsed B) → ReadsInOrder part
    → ((v : A) → ReadsInOrder (λ bytes. f (v, bytes))) → ReadsInOrder (λ bytes. and_then (part bytes) f)
in_turn {A = A} {B = B} part f first next xs ys v rest e =
    let x = bind_ok (part (xs ++ ys)) f (v, rest) e in
    here x.0.0 x.0.1 x.2 (first xs ys x.0.0 x.0.1 x.1)
  where
    here : (w : A) (more : List ℕ) → f (w, more) ≡ Ok (v, rest) → OfFront (part xs) ys w more → OfFront (and_then (part xs) f) ys v rest
    here w more e (inl (left, is, behind)) =
        subst (λ (r : Parsed B). OfFront r ys v rest) (sym (ok_and_then (part xs) f (w, left) is))
        (next w left ys v rest (subst (λ (r : List ℕ). f (w, r) ≡ Ok (v, rest)) behind e))
    here w more e (inr cut) = inr (err_and_then (part xs) f (UnexpectedEnd, []) cut)

-- a part that takes no byte and gives a fixed value reads in order
at_once : {A : Type 0} (w : A) → ReadsInOrder (λ bytes. Ok (w, bytes))
at_once {A = A} w xs ys v rest e =
    let p = ok_is (w, xs ++ ys) (v, rest) e in
    inl (xs, ap (λ (q : A × List ℕ). Ok (q.0, xs)) p, sym (ap (λ (q : A × List ℕ). q.1) p))

-- a test that reads nothing
tested : {A : Type 0} (r : Result A Fault) → ReadsInOrder (λ bytes. leaving r bytes)
tested (Ok w) xs ys v rest e = at_once w xs ys v rest e
tested (Err d) xs ys v rest e = absurd cc

byte_in_order : ReadsInOrder byte_at
unfolding byte_at
byte_in_order [] ys v rest e = inr refl
byte_in_order (b ∷ xs) ys v rest e =
    let p = ok_is (b, xs ++ ys) (v, rest) e in
    inl (xs, ap (λ (q : ℕ × List ℕ). Ok (q.0, xs)) p, sym (ap (λ (q : ℕ × List ℕ). q.1) p))

-- a byte that is compared
compared : (same : Bool) (fault : Fault) (v : ℕ) → ReadsInOrder {A = ℕ} (λ bytes. cond same (Ok (v, bytes)) (Err (fault, bytes)))
compared true fault v xs ys w rest e = at_once v xs ys w rest e
compared false fault v xs ys w rest e = absurd cc

expected_in_order : (expected : ℕ) (fault : Fault) → ReadsInOrder (expected_at expected fault)
unfolding expected_at
expected_in_order expected fault =
    in_turn {A = ℕ} {B = ℕ} byte_at (λ b. cond (eqb b.0 expected) (Ok b) (Err (fault, b.1))) byte_in_order
    (λ v. compared (eqb v expected) fault v)

line_end_in_order : ReadsInOrder line_end_at
unfolding line_end_at
line_end_in_order =
    in_turn (expected_at 13 NoLineEnd) (λ cr. expected_at 10 NoLineEnd cr.1) (expected_in_order 13 NoLineEnd)
    (λ _. expected_in_order 10 NoLineEnd)

bytes_in_order : (n : ℕ) → ReadsInOrder (bytes_at n)
unfolding bytes_at
bytes_in_order n xs ys v rest e = here (ltb (length xs) n) refl
  where
    whole : ltb (length xs) n ≡ false → OfFront (bytes_at n xs) ys v rest
    whole enough =
        let long : n ≤ length xs = ltb-false _ _ enough in
        let more : n ≤ length (xs ++ ys) = omega (arith, length-append xs ys) in
        let all : cond (ltb (length (xs ++ ys)) n) (Err (UnexpectedEnd, [])) (Ok (take n (xs ++ ys), drop n (xs ++ ys)))
        ≡ Ok (v, rest) = e in
        let p = ok_is (take n (xs ++ ys), drop n (xs ++ ys)) (v, rest) (rw (le-ltb _ _ more) at all) in
        let front : take n xs ≡ v = sym (take-append-le n xs ys long) ∙ ap (λ (q : List ℕ × List ℕ). q.0) p in
        let behind : rest ≡ drop n xs ++ ys = sym (ap (λ (q : List ℕ × List ℕ). q.1) p) ∙ drop-append-le n xs ys long in
        inl (drop n xs, rw enough (ap (λ (q : List ℕ). Ok (q, drop n xs)) front), behind)

    here : (short : Bool) → ltb (length xs) n ≡ short → OfFront (bytes_at n xs) ys v rest
    here true short = inr (rw short refl)
    here false enough = whole enough

-- the digits behind the first one of a number, which may end there; `whole` reads more of them, and `front` those of a front
ends_or_goes_on : (ends : Bool) (n : ℕ) (r : Result ℕ Fault) (whole front : ℕ × List ℕ → Parsed ℕ) (xs ys : List ℕ) (v : ℕ)
    (rest : List ℕ) → ((m : ℕ) → whole (m, xs ++ ys) ≡ Ok (v, rest) → OfFront (front (m, xs)) ys v rest)
    → cond ends (Ok (n, xs ++ ys)) (and_then (leaving r (xs ++ ys)) whole) ≡ Ok (v, rest)
    → OfFront (cond ends (Ok (n, xs)) (and_then (leaving r xs) front)) ys v rest
ends_or_goes_on true n r whole front xs ys v rest next e = at_once n xs ys v rest e
ends_or_goes_on false n (Ok m) whole front xs ys v rest next e = next m e
ends_or_goes_on false n (Err d) whole front xs ys v rest next e = absurd cc

digits_in_order : (most : ℕ) (above : Fault) (n : ℕ) (xs ys : List ℕ) (v : ℕ) (rest : List ℕ)
    → digits_at most above n (xs ++ ys) ≡ Ok (v, rest) → OfFront (digits_at most above n xs) ys v rest
unfolding digits_at
digits_in_order most above n [] ys v rest e = inr refl
digits_in_order most above n (byte ∷ xs) ys v rest e =
    ends_or_goes_on (eqb byte 13) n (with_digit BadNumber most above n byte) (λ m. digits_at most above m.0 (xs ++ ys))
    (λ m. digits_at most above m.0 xs) xs ys v rest (λ m. digits_in_order most above m xs ys v rest) e

number_in_order : (most : ℕ) (above : Fault) → ReadsInOrder (number_at most above)
unfolding number_at
number_in_order most above =
    in_turn byte_at (after_byte most above) byte_in_order
    (λ byte. in_turn (leaving (first_digit BadNumber byte)) (after_first most above) (tested (first_digit BadNumber byte))
    (λ first. in_turn (digits_at most above first) after_digits (digits_in_order most above first)
    (λ n. in_turn (expected_at 10 NoLineEnd) (λ lf. Ok (n, lf.1)) (expected_in_order 10 NoLineEnd) (λ _. at_once n))))

string_in_order : ReadsInOrder string_at
unfolding string_at
string_in_order =
    in_turn (expected_at 36 BadType) after_mark (expected_in_order 36 BadType)
    (λ _. in_turn (number_at LONGEST_STRING StringTooLong) after_length (number_in_order LONGEST_STRING StringTooLong)
    (λ n. in_turn (bytes_at n) after_string (bytes_in_order n)
    (λ string. in_turn line_end_at (λ lf. Ok (string, lf.1)) line_end_in_order (λ _. at_once string))))

strings_in_order : (n : ℕ) → ReadsInOrder (strings_at n)
unfolding strings_at
strings_in_order zero = at_once []
strings_in_order (suc n) =
    in_turn string_at (after_one n) string_in_order
    (λ first. in_turn (strings_at n) (λ others. Ok (first ∷ others.0, others.1)) (strings_in_order n) (λ others. at_once (first ∷ others)))

array_in_order : ReadsInOrder array_at
unfolding array_at
array_in_order =
    in_turn (number_at MOST_STRINGS TooManyStrings) after_count (number_in_order MOST_STRINGS TooManyStrings) (λ n. strings_in_order n)

-- what stands behind the first byte of a frame
marked_in_order : (is_star : Bool) → ReadsInOrder (λ xs. cond is_star (and_then (array_at xs) as_frame) (Err (BadType, xs)))
marked_in_order true xs ys v rest e =
    in_turn {A = List (List ℕ)} {B = Option (List (List ℕ))} array_at as_frame array_in_order
    (λ strings. at_once (Some strings)) xs ys v rest e
marked_in_order false xs ys v rest e = absurd cc

frame_in_order : (byte : ℕ) → ReadsInOrder (λ xs. frame_at (byte ∷ xs))
unfolding frame_at
frame_in_order byte = marked_in_order (eqb byte 42)

nothing_behind : (left back : List ℕ) → [] ≡ left ++ back → (back ≡ [] → ⊥) → ⊥
nothing_behind [] back e some = some (sym e)
nothing_behind (x ∷ left) back e some = absurd cc

pub cut_frame : CutEndsEarly
cut_frame strings [] back lawful e some_front some_back = absurd (some_front refl)
cut_frame strings (byte ∷ front) back lawful e some_front some_back =
    let again = frame_again strings [] lawful in
    let split : frame_at (byte ∷ (front ++ back)) ≡ Ok (Some strings, []) =
    ap frame_at (sym e ∙ sym (append-nil (frame_bytes strings))) ∙ again in
    here (frame_in_order byte front back (Some strings) [] split)
  where
    here : OfFront (frame_at (byte ∷ front)) back (Some strings) [] → frame_at (byte ∷ front) ≡ Err (UnexpectedEnd, [])
    here (inl (left, is, none)) = absurd (nothing_behind left back none some_back)
    here (inr cut) = cut
