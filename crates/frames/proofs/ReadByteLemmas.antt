-- What the functions that read bytes give.
use Rattle.std.proofs.Common.{◌≡◌, ℕ, ◌+◌, ◌<◌, cond, ltb, eqb, List, [], ◌∷◌, ◌++◌, length, Some, None}
use Rattle.std.proofs.Common.{◌≤◌, take, Result, Ok, Err, sym, ap, subst, ◌∙◌, arith, take_all}
use Rattle.std.specs.Io.KnownBytes.{Consumes, IsAtEnd, Keeps}
use Rattle.std.proofs.lemmas.Bool.{cond-true, cond-false, eq-eqb, ne_eqb, lt-ltb}
use Rattle.std.proofs.lemmas.List.{length-append, length-take}
use Rattle.frames.specs.declared.error.Fault.{Fault}
use Rattle.frames.specs.declared.error.Fault.TheVariants.{NoLineEnd, UnexpectedEnd}
use Rattle.frames.specs.declared.error.FrameError.{FrameError}
use Rattle.frames.specs.declared.error.FrameError.TheVariants as errors
use Rattle.frames.specs.Reading.{Parsed, GivesAs, Returns, byte_at, expected_at, line_end_at, bytes_at}
use Rattle.frames.proofs.ReadPartLemmas.{bytes_again}
use Rattle.frames.proofs.ReadSequenceLemmas.{Left, Between_as, then_ok, then_err, fails, succeeds}
use Rattle.words.specs.Parts.{and_then}

-- ---- one byte

pub byte_read : (old new : Left) (byte : ℕ) → Consumes old new (byte ∷ []) → Returns byte_at old new (succeeds byte)
unfolding byte_at
byte_read None new byte p = tt
byte_read (Some xs) None byte p = absurd p
byte_read (Some xs) (Some ys) byte p = ap byte_at p

pub byte_ended : (old new : Left) → IsAtEnd old → Keeps old new → Returns byte_at old new (fails ℕ (errors.Fault UnexpectedEnd))
unfolding byte_at
byte_ended None new p q = tt
byte_ended (Some xs) None p q = absurd q
byte_ended (Some xs) (Some ys) p q = ap byte_at p ∙ ap (λ (l : List ℕ). Err (UnexpectedEnd, l)) (sym (q ∙ p))

-- what follows the byte that was to be another
abbrev tested : ℕ → Fault → ℕ × List ℕ → Parsed ℕ
tested expected fault b = cond (eqb b.0 expected) (Ok b) (Err (fault, b.1))

pub expected_err : (expected : ℕ) (fault : Fault) (old new : Left) (e : FrameError) → Returns byte_at old new (fails ℕ e)
    → Returns (expected_at expected fault) old new (fails ℕ e)
unfolding expected_at
expected_err expected fault old new e p = then_err byte_at (tested expected fault) old new e p

pub expected_other : (expected : ℕ) (fault : Fault) (old new : Left) (byte : ℕ) → Returns byte_at old new (succeeds byte)
    → (byte ≡ expected → ⊥) → Returns (expected_at expected fault) old new (fails ℕ (errors.Fault fault))
unfolding expected_at
expected_other expected fault old new byte p other =
    Between_as old new (λ xs ys a. ap (λ (r : Parsed ℕ). and_then r (tested expected fault)) a
    ∙ cond-false (eqb byte expected) _ _ (ne_eqb byte expected other)) p

pub expected_same : (expected : ℕ) (fault : Fault) (old new : Left) (byte : ℕ) → Returns byte_at old new (succeeds byte)
    → byte ≡ expected → Returns (expected_at expected fault) old new (succeeds byte)
unfolding expected_at
expected_same expected fault old new byte p same =
    Between_as old new (λ xs ys a. ap (λ (r : Parsed ℕ). and_then r (tested expected fault)) a
    ∙ cond-true (eqb byte expected) _ _ (eq-eqb byte expected same)) p

pub line_end_err : (old new : Left) (e : FrameError) → Returns (expected_at 13 NoLineEnd) old new (fails ℕ e)
    → Returns line_end_at old new (fails ℕ e)
unfolding line_end_at
line_end_err old new e p = then_err (expected_at 13 NoLineEnd) (λ cr. expected_at 10 NoLineEnd cr.1) old new e p

pub line_end_then : (old mid new : Left) (byte : ℕ) (r : Result ℕ FrameError) → Returns (expected_at 13 NoLineEnd) old mid (succeeds byte)
    → Returns (expected_at 10 NoLineEnd) mid new r → Returns line_end_at old new r
unfolding line_end_at
line_end_then old mid new byte r p q = then_ok (expected_at 13 NoLineEnd) (λ cr. expected_at 10 NoLineEnd cr.1) old mid new byte r p q

-- ---- many bytes, in a buffer of that length

-- the input ended before the buffer was full
pub bytes_cut : {X : Type 0} (see : X → List ℕ) (n count : ℕ) (old new : Left) (buf : List ℕ) → count < n
    → Consumes old new (take count buf) → IsAtEnd new → GivesAs see (bytes_at n) old new (fails X (errors.Fault UnexpectedEnd))
unfolding bytes_at
bytes_cut see n count None new buf lt p end = tt
bytes_cut see n count (Some xs) None buf lt p end = absurd p
bytes_cut see n count (Some xs) (Some ys) buf lt p end =
    let e : xs ≡ take count buf ++ [] = p ∙ ap (λ (t : List ℕ). take count buf ++ t) end in
    let len : length xs ≡ length (take count buf) + 0 = ap (λ (t : List ℕ). length t) e ∙ length-append (take count buf) [] in
    cond-true (ltb (length xs) n) _ _ (lt-ltb _ _ (omega (arith, length-take count buf)))
    ∙ ap (λ (l : List ℕ). Err (UnexpectedEnd, l)) (sym end)

-- the buffer is full
pub bytes_filled : {X : Type 0} (see : X → List ℕ) (n count : ℕ) (old new : Left) (buf : List ℕ) (x : X) → length buf ≡ n → n ≤ count
    → buf ≡ see x → Consumes old new (take count buf) → GivesAs see (bytes_at n) old new (succeeds x)
bytes_filled see n count None new buf x len full is p = tt
bytes_filled see n count (Some xs) None buf x len full is p = absurd p
bytes_filled see n count (Some xs) (Some ys) buf x len full is p =
    ap (bytes_at n) (subst (λ (b : List ℕ). xs ≡ b ++ ys) (take_all count buf (omega arith)) p)
    ∙ ap (λ (k : ℕ). bytes_at k (buf ++ ys)) (sym len) ∙ bytes_again buf ys ∙ ap (λ (b : List ℕ). Ok (b, ys)) is
