-- A frame that is read is the frame that was written, and what was written is read again.
use Rattle.std.proofs.Common.{◌≡◌, ℕ, ◌^◌, ◌<◌, ◌≤◌, eqb, List, [], ◌∷◌, ◌++◌, length, Option, Some, None}
use Rattle.std.proofs.Common.{Ok, refl, sym, ap, subst, ◌∙◌, append_assoc, arith}
use Rattle.std.specs.List.{flat_map}
use Rattle.std.specs.Fmt.{decimal}
use Rattle.std.proofs.lemmas.Bool.{eqb-true}
use Rattle.frames.specs.declared.error.Fault.TheVariants.{BadType, TooManyStrings}
use Rattle.frames.specs.declared.limits.TheConstants.{MOST_STRINGS}
use Rattle.frames.specs.Frame.{IsFrame, line_end, string_bytes, frame_bytes}
use Rattle.frames.specs.Laws.{WrittenIsRead, ReadWasWritten, BeginsOneFrame}
use Rattle.frames.specs.Reading.{Parsed, number_at, array_at, frame_at}
use Rattle.frames.proofs.RestAfterPartLemmas.{after_count, as_frame}
use Rattle.frames.proofs.ReadPartLemmas.{ok_is}
use Rattle.frames.proofs.NumberRoundTripLemmas.{number_ok, number_again}
use Rattle.frames.proofs.StringRoundTripLemmas.{strings_ok, strings_again}
use Rattle.words.specs.Parts.{and_then}
use Rattle.words.proofs.PartLemmas.{bind_ok, guarded}

-- the limit is below 2^64
limit : (n : ℕ) → n ≡ 1024 → (9 ≤ n) × (n < 2 ^ 64)
limit n e = (omega arith, omega arith)

-- a frame or none, and what is left
abbrev Found : Type 0
Found = Option (List (List ℕ)) × List ℕ

some_is : {A : Type 0} (x y : A) → Some x ≡ Some y → x ≡ y
some_is x y e = cc

some_none : {A : Type 0} (x : A) → Some x ≡ None → ⊥
some_none x e = absurd cc

-- ---- what is read was written

array_ok : (bytes : List ℕ) (x : List (List ℕ) × List ℕ) → array_at bytes ≡ Ok x → IsFrame x.0 × (42 ∷ bytes ≡ frame_bytes x.0 ++ x.1)
unfolding array_at
array_ok bytes x e =
    let n = bind_ok (number_at MOST_STRINGS TooManyStrings bytes) after_count x e in
    let within = limit MOST_STRINGS refl in
    let number = number_ok MOST_STRINGS TooManyStrings bytes n.0 within.0 within.1 n.1 in
    let strings = strings_ok n.0.0 n.0.1 x n.2 in
    let le = number.1 in
    let len = strings.1 in
    let few : length x.0 ≤ MOST_STRINGS = omega arith in (
      record { few = few; short = strings.2 },
      ap (λ (rest : List ℕ). 42 ∷ rest) (number.0
          ∙ ap (λ (k : ℕ). (decimal k ++ line_end) ++ n.0.1) (sym strings.1)
          ∙ ap (λ (rest : List ℕ). (decimal (length x.0) ++ line_end) ++ rest) strings.0
          ∙ sym (append_assoc (decimal (length x.0) ++ line_end) (flat_map string_bytes x.0) x.1)),
    )

-- what is read at a byte is the frame that follows a `*`
marked : (byte : ℕ) (bytes : List ℕ) (found : Found) → frame_at (byte ∷ bytes) ≡ Ok found
    → (byte ≡ 42) × (a : List (List ℕ) × List ℕ) × (array_at bytes ≡ Ok a) × ((Some a.0, a.1) ≡ found)
unfolding frame_at
marked byte bytes found e =
    let g = guarded (eqb byte 42) (and_then (array_at bytes) as_frame) (BadType, bytes) found e in
    let a = bind_ok (array_at bytes) as_frame found g.1 in
    (eqb-true byte 42 g.0, a.0, a.1, ok_is (Some a.0.0, a.0.1) found a.2)

pub frame_ok : ReadWasWritten
unfolding frame_at
frame_ok [] f rest e = absurd (some_none f (sym (ap (λ (p : Found). p.0) (ok_is (None, []) (Some f, rest) e))))
frame_ok (byte ∷ bytes) f rest e =
    let m = marked byte bytes (Some f, rest) e in
    let whole = array_ok bytes m.1 m.2 in
    let same : m.1.0 ≡ f = some_is m.1.0 f (ap (λ (p : Found). p.0) m.3) in
    let left : m.1.1 ≡ rest = ap (λ (p : Found). p.1) m.3 in (
      subst IsFrame same whole.0,
      ap (λ (b : ℕ). b ∷ bytes) m.0
          ∙ whole.1
          ∙ ap (λ (h : List (List ℕ)). frame_bytes h ++ m.1.1) same
          ∙ ap (λ (r : List ℕ). frame_bytes f ++ r) left,
    )

pub none_ok : (bytes rest : List ℕ) → frame_at bytes ≡ Ok (None, rest) → bytes ≡ []
none_ok [] rest e = refl
none_ok (byte ∷ bytes) rest e =
    let m = marked byte bytes (None, rest) e in
    absurd (some_none m.1.0 (ap (λ (p : Found). p.0) m.3))

-- ---- what was written is read

pub frame_again : WrittenIsRead
unfolding frame_at array_at
frame_again f rest lawful =
    let few = lawful.few in
    let regrouped : frame_bytes f ++ rest ≡ 42 ∷ ((decimal (length f) ++ line_end) ++ (flat_map string_bytes f ++ rest)) =
    ap (λ (r : List ℕ). 42 ∷ r) (append_assoc (decimal (length f) ++ line_end) (flat_map string_bytes f) rest) in
    let number = number_again MOST_STRINGS TooManyStrings (length f) (flat_map string_bytes f ++ rest) few (limit MOST_STRINGS refl).1 in
    ap frame_at regrouped ∙ rw (number, strings_again f rest lawful.short) refl

abbrev read_frame_of : Found → Parsed (Option (List (List ℕ)))
read_frame_of x = Ok x

pub one_frame : BeginsOneFrame
one_frame f g x y is_f is_g e =
    let same : read_frame_of (Some f, x) ≡ read_frame_of (Some g, y) = sym (frame_again f x is_f) ∙ ap frame_at e ∙ frame_again g y is_g in
    let parts = ok_is (Some f, x) (Some g, y) same in
    (some_is f g (ap (λ (p : Found). p.0) parts), ap (λ (p : Found). p.1) parts)
