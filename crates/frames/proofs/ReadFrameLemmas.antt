-- What the functions that read frames give.
use Rattle.std.proofs.Common.{◌≡◌, ℕ, eqb, List, [], ◌∷◌, ◌++◌, Option, Some, None, Result, Ok, Err, sym, ap, subst, ◌∙◌}
use Rattle.std.specs.Prelude.{IfOk, MatchOption}
use Rattle.std.specs.Io.KnownBytes.{Consumes, IsAtEnd, Keeps}
use Rattle.std.proofs.lemmas.Bool.{cond-true, cond-false, eq-eqb, ne_eqb}
use Rattle.frames.specs.declared.error.Fault.TheVariants.{BadType, TooManyStrings}
use Rattle.frames.specs.declared.error.FrameError.{FrameError}
use Rattle.frames.specs.declared.error.FrameError.TheVariants as errors
use Rattle.frames.specs.declared.limits.TheConstants.{MOST_STRINGS}
use Rattle.frames.specs.Frame.{IsFrame, frame_bytes}
use Rattle.frames.specs.Reading.{Parsed, GivesAs, Returns, number_at, strings_at, array_at, frame_at}
use Rattle.frames.proofs.FrameRoundTripLemmas.{frame_ok, none_ok, frame_again}
use Rattle.frames.proofs.ReadSequenceLemmas.{Left, Between_then, Between_as, Between_taken, then_ok, then_err, fails, succeeds, GivesAs_err}
use Rattle.frames.proofs.RestAfterPartLemmas.{after_count, as_frame}
use Rattle.words.specs.Parts.{and_then}

-- ---- what follows the `*`

pub array_err : (old new : Left) (e : FrameError) → Returns (number_at MOST_STRINGS TooManyStrings) old new (fails ℕ e)
    → Returns array_at old new (fails (List (List ℕ)) e)
unfolding array_at
array_err old new e p = then_err (number_at MOST_STRINGS TooManyStrings) after_count old new e p

pub array_then : (old mid new : Left) (count : ℕ) (r : Result (List (List ℕ)) FrameError)
    → Returns (number_at MOST_STRINGS TooManyStrings) old mid (succeeds count) → Returns (strings_at count) mid new r
    → Returns array_at old new r
unfolding array_at
array_then old mid new count r p q = then_ok (number_at MOST_STRINGS TooManyStrings) after_count old mid new count r p q

pub array_then_err : {X : Type 0} (view : X → List (List ℕ)) (old mid new : Left) (count : ℕ) (e : FrameError)
    → Returns (number_at MOST_STRINGS TooManyStrings) old mid (succeeds count) → GivesAs view (strings_at count) mid new (fails X e)
    → Returns array_at old new (fails (List (List ℕ)) e)
array_then_err view old mid new count e p q =
    array_then old mid new count (fails (List (List ℕ)) e) p (GivesAs_err view (λ f. f) (strings_at count) mid new e q)

-- ---- a frame

-- a frame, or none
abbrev pub Found : Type 0
Found = Option (List (List ℕ))

pub frame_none : (old new : Left) → IsAtEnd old → Keeps old new → Returns frame_at old new (succeeds None)
unfolding frame_at
frame_none None new p q = tt
frame_none (Some xs) None p q = absurd q
frame_none (Some xs) (Some ys) p q = ap frame_at p ∙ ap (λ (l : List ℕ). Ok (None, l)) (sym (q ∙ p))

-- what stands behind a `*`
marked : (byte : ℕ) (xs ys : List ℕ) → xs ≡ byte ∷ ys → byte ≡ 42 → frame_at xs ≡ and_then (array_at ys) as_frame
unfolding frame_at
marked byte xs ys e is = ap frame_at e ∙ cond-true (eqb byte 42) _ _ (eq-eqb byte 42 is)

pub frame_some : (old mid new : Left) (byte : ℕ) (f : List (List ℕ)) → Consumes old mid (byte ∷ []) → byte ≡ 42
    → Returns array_at mid new (succeeds f) → Returns frame_at old new (succeeds (Some f))
frame_some old mid new byte f p is q =
    Between_then old mid new (λ xs ys zs a b. marked byte xs ys a is ∙ ap (λ (r : Parsed (List (List ℕ))). and_then r as_frame) b)
    (Between_taken old mid (byte ∷ []) p) q

pub frame_err : (old mid new : Left) (byte : ℕ) (e : FrameError) → Consumes old mid (byte ∷ []) → byte ≡ 42
    → Returns array_at mid new (fails (List (List ℕ)) e) → Returns frame_at old new (fails Found e)
frame_err old mid new byte (errors.Fault fault) p is q =
    Between_then old mid new (λ xs ys zs a b. marked byte xs ys a is ∙ ap (λ (r : Parsed (List (List ℕ))). and_then r as_frame) b)
    (Between_taken old mid (byte ∷ []) p) q
frame_err old mid new byte errors.NoMemory p is q = tt
frame_err old mid new byte (errors.Failed error) p is q = tt

pub frame_bad : (old new : Left) (byte : ℕ) → Consumes old new (byte ∷ []) → (byte ≡ 42 → ⊥)
    → Returns frame_at old new (fails Found (errors.Fault BadType))
unfolding frame_at
frame_bad old new byte p other =
    Between_as old new (λ xs ys a. ap frame_at a ∙ cond-false (eqb byte 42) _ _ (ne_eqb byte 42 other))
    (Between_taken old new (byte ∷ []) p)

-- ---- what the clauses of `read_frame` say

pub is_found : (old new : Left) (r : Result Found FrameError) → Returns frame_at old new r
    → IfOk r (λ found. MatchOption found (IsAtEnd old) (λ f. Consumes old new (frame_bytes f)))
is_found None new (Ok None) p = tt
is_found (Some xs) None (Ok None) p = absurd p
is_found (Some xs) (Some ys) (Ok None) p = none_ok xs ys p
is_found None new (Ok (Some f)) p = tt
is_found (Some xs) None (Ok (Some f)) p = absurd p
is_found (Some xs) (Some ys) (Ok (Some f)) p = (frame_ok xs f ys p).1
is_found old new (Err e) p = tt

only_at : (xs : List ℕ) (strings : List (List ℕ)) (rest : List ℕ) (new : Left) (r : Result Found FrameError)
    → frame_at xs ≡ Ok (Some strings, rest) → Returns frame_at (Some xs) new r → Returns (λ _. Ok (Some strings, rest)) (Some xs) new r
only_at xs strings rest None (Ok z) h p = absurd p
only_at xs strings rest (Some ys) (Ok z) h p = sym h ∙ p
only_at xs strings rest None (Err (errors.Fault fault)) h p = absurd p
only_at xs strings rest (Some ys) (Err (errors.Fault fault)) h p = sym h ∙ p
only_at xs strings rest new (Err errors.NoMemory) h p = tt
only_at xs strings rest new (Err (errors.Failed error)) h p = tt

pub is_only : (old new : Left) (r : Result Found FrameError) → Returns frame_at old new r → (strings : List (List ℕ)) (rest : List ℕ)
    → IsFrame strings → old ≡ Some (frame_bytes strings ++ rest) → Returns (λ _. Ok (Some strings, rest)) old new r
is_only old new r p strings rest lawful e =
    subst (λ (o : Left). Returns (λ _. Ok (Some strings, rest)) o new r) (sym e)
    (only_at (frame_bytes strings ++ rest) strings rest new r (frame_again strings rest lawful)
    (subst (λ (o : Left). Returns frame_at o new r) e p))
