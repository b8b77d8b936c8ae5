-- What the functions that read strings give.
use Rattle.std.proofs.Common.{◌≡◌, ℕ, suc, ◌+◌, ◌-◌, ◌<◌, ◌≤◌, List, [], ◌∷◌, ◌++◌, length}
use Rattle.std.proofs.Common.{Result, Ok, Err, refl, sym, ap, subst, ◌∙◌, append_assoc, append-nil, arith}
use Rattle.std.specs.List.{AllByRecursion}
use Rattle.std.proofs.lemmas.List.{length-append}
use Rattle.frames.specs.declared.error.Fault.{Fault}
use Rattle.frames.specs.declared.error.Fault.TheVariants.{BadType, StringTooLong}
use Rattle.frames.specs.declared.error.FrameError.{FrameError}
use Rattle.frames.specs.declared.error.FrameError.TheVariants as errors
use Rattle.frames.specs.declared.limits.TheConstants.{LONGEST_STRING}
use Rattle.frames.specs.Frame.{IsShort}
use Rattle.frames.specs.Reading.{Parsed, Between, GivesAs, Returns, expected_at, line_end_at, bytes_at}
use Rattle.frames.specs.Reading.{number_at, string_at, strings_at}
use Rattle.frames.proofs.ReadSequenceLemmas.{Left, Between_then, Between_as, Between_same, fails, succeeds}
use Rattle.frames.proofs.ReadSequenceLemmas.{then_ok_as, then_ok, then_last, then_err_as, then_err}
use Rattle.frames.proofs.RestAfterPartLemmas.{after_string, after_length, after_mark}
use Rattle.words.specs.Parts.{and_then}

-- ---- a string

pub string_mark_err : (old new : Left) (e : FrameError) → Returns (expected_at 36 BadType) old new (fails ℕ e)
    → Returns string_at old new (fails (List ℕ) e)
unfolding string_at
string_mark_err old new e p = then_err (expected_at 36 BadType) after_mark old new e p

pub string_length_err : (old mid new : Left) (mark : ℕ) (e : FrameError) → Returns (expected_at 36 BadType) old mid (succeeds mark)
    → Returns (number_at LONGEST_STRING StringTooLong) mid new (fails ℕ e) → Returns string_at old new (fails (List ℕ) e)
unfolding string_at
string_length_err old mid new mark e p q = then_ok (expected_at 36 BadType) after_mark old mid new mark (fails (List ℕ) e) p
    (then_err (number_at LONGEST_STRING StringTooLong) after_length mid new e q)

-- a length, and what follows it
pub string_from : (old mid end new : Left) (mark len : ℕ) (r : Result (List ℕ) FrameError)
    → Returns (expected_at 36 BadType) old mid (succeeds mark) → Returns (number_at LONGEST_STRING StringTooLong) mid end (succeeds len)
    → Returns (λ ys. after_length (len, ys)) end new r → Returns string_at old new r
unfolding string_at
string_from old mid end new mark len r p q s = then_ok (expected_at 36 BadType) after_mark old mid new mark r p
    (then_ok (number_at LONGEST_STRING StringTooLong) after_length mid end new len r q s)

pub string_bytes_err : {X : Type 0} (view : X → List ℕ) (len : ℕ) (old new : Left) (e : FrameError)
    → GivesAs view (bytes_at len) old new (fails X e) → Returns (λ ys. after_length (len, ys)) old new (fails (List ℕ) e)
string_bytes_err view len old new e p = then_err_as view (bytes_at len) after_string old new e p

pub string_line_err : {X : Type 0} (view : X → List ℕ) (x : X) (len : ℕ) (old mid new : Left) (e : FrameError)
    → GivesAs view (bytes_at len) old mid (succeeds x) → Returns line_end_at mid new (fails ℕ e)
    → Returns (λ ys. after_length (len, ys)) old new (fails (List ℕ) e)
string_line_err view x len old mid new e p q =
    then_ok_as view (λ s. s) (bytes_at len) after_string old mid new x (fails (List ℕ) e) p
    (then_err line_end_at (λ lf. Ok (view x, lf.1)) mid new e q)

pub string_done : {X : Type 0} (view : X → List ℕ) (x : X) (len lf : ℕ) (old mid new : Left)
    → GivesAs view (bytes_at len) old mid (succeeds x) → Returns line_end_at mid new (succeeds lf)
    → Returns (λ ys. after_length (len, ys)) old new (succeeds (view x))
string_done view x len lf old mid new p q =
    then_ok_as view (λ s. s) (bytes_at len) after_string old mid new x (succeeds (view x)) p
    (then_last line_end_at (λ lf. Ok (view x, lf.1)) mid new lf (view x) (λ ys. refl) q)

-- ---- several strings

-- what was read before, and what is still read
abbrev pub with_front : List (List ℕ) → Parsed (List (List ℕ)) → Parsed (List (List ℕ))
with_front front read = and_then read (λ x. Ok (front ++ x.0, x.1))

front_none : (read : Parsed (List (List ℕ))) → with_front [] read ≡ read
front_none (Ok x) = refl
front_none (Err e) = refl

front_more : (front : List (List ℕ)) (s : List ℕ) (read : Parsed (List (List ℕ)))
    → with_front front (and_then read (λ x. Ok (s ∷ x.0, x.1))) ≡ with_front (front ++ s ∷ []) read
front_more front s (Ok x) = ap (λ (ss : List (List ℕ)). Ok (ss, x.1)) (sym (append_assoc front (s ∷ []) x.0))
front_more front s (Err e) = refl

strings_go : (front : List (List ℕ)) (count i : ℕ) (ys : List ℕ) (s : List ℕ) (zs : List ℕ) → i < count → string_at ys ≡ Ok (s, zs)
    → with_front front (strings_at (count - i) ys) ≡ with_front (front ++ s ∷ []) (strings_at (count - (i + 1)) zs)
unfolding strings_at
strings_go front count i ys s zs lt h =
    let k : count - i ≡ suc (count - (i + 1)) = omega arith in
    rw (k, h) (front_more front s (strings_at (count - (i + 1)) zs))

strings_fail : (front : List (List ℕ)) (count i : ℕ) (ys : List ℕ) (p : Fault × List ℕ) → i < count → string_at ys ≡ Err p
    → with_front front (strings_at (count - i) ys) ≡ Err p
unfolding strings_at
strings_fail front count i ys p lt h =
    let k : count - i ≡ suc (count - (i + 1)) = omega arith in
    rw (k, h) refl

strings_end : (front : List (List ℕ)) (count i : ℕ) (ys : List ℕ) → count ≤ i
    → with_front front (strings_at (count - i) ys) ≡ Ok (front, ys)
unfolding strings_at
strings_end front count i ys le =
    let k : count - i ≡ 0 = omega arith in
    rw k (ap (λ (ss : List (List ℕ)). Ok (ss, ys)) (append-nil front))

minus_none : (n : ℕ) → n - 0 ≡ n
minus_none n = omega arith

-- reading `count` strings gives these, and then what reading the others gives
abbrev pub Collects : ℕ → List (List ℕ) → ℕ → Left → Left → Type 0
Collects count front i old new = Between (λ xs ys. strings_at count xs ≡ with_front front (strings_at (count - i) ys)) old new

all_and_last : (front : List (List ℕ)) (s : List ℕ) → AllByRecursion IsShort front → IsShort s → AllByRecursion IsShort (front ++ s ∷ [])
all_and_last [] s all last = (last, tt)
all_and_last (x ∷ xs) s all last = (all.0, all_and_last xs s all.1 last)

strings_init : (count : ℕ) (old : Left) → Collects count [] 0 old old
strings_init count old = Between_same (λ xs ys. strings_at count xs ≡ with_front [] (strings_at (count - 0) ys)) old
    (λ xs. sym (front_none (strings_at (count - 0) xs) ∙ ap (λ (n : ℕ). strings_at n xs) (minus_none count)))

strings_more : (count : ℕ) (front : List (List ℕ)) (i : ℕ) (s : List ℕ) (old mid new : Left) → i < count
    → Collects count front i old mid → Returns string_at mid new (succeeds s) → Collects count (front ++ s ∷ []) (i + 1) old new
strings_more count front i s old mid new lt p q =
    Between_then old mid new (λ xs ys zs a b. a ∙ strings_go front count i ys s zs lt b) p q

-- one more string
pub strings_pushed : (count i : ℕ) (front next : List (List ℕ)) (s : List ℕ) (old mid new : Left) → next ≡ front ++ s ∷ [] → i < count
    → length front ≡ i → AllByRecursion IsShort front → IsShort s → Collects count front i old mid → Returns string_at mid new (succeeds s)
    → (length next ≡ i + 1) × AllByRecursion IsShort next × Collects count next (i + 1) old new
strings_pushed count i front next s old mid new is lt len short last p q =
    let more : length (front ++ s ∷ []) ≡ i + 1 = omega (arith, length-append front (s ∷ [])) in
    subst (λ (l : List (List ℕ)). (length l ≡ i + 1) × AllByRecursion IsShort l × Collects count l (i + 1) old new) (sym is)
    (more, all_and_last front s short last, strings_more count front i s old mid new lt p q)

-- no string yet
pub strings_none : (count : ℕ) (none : List (List ℕ)) (old : Left) → none ≡ []
    → (length none ≡ 0) × AllByRecursion IsShort none × Collects count none 0 old old
strings_none count none old is =
    subst (λ (l : List (List ℕ)). (length l ≡ 0) × AllByRecursion IsShort l × Collects count l 0 old old) (sym is)
    (refl, tt, strings_init count old)

pub strings_err : {X : Type 0} (see : X → List (List ℕ)) (count : ℕ) (front : List (List ℕ)) (i : ℕ) (old mid new : Left) (e : FrameError)
    → i < count → Collects count front i old mid → Returns string_at mid new (fails (List ℕ) e)
    → GivesAs see (strings_at count) old new (fails X e)
strings_err see count front i old mid new (errors.Fault fault) lt p q =
    Between_then old mid new (λ xs ys zs a b. a ∙ strings_fail front count i ys (fault, zs) lt b) p q
strings_err see count front i old mid new errors.NoMemory lt p q = tt
strings_err see count front i old mid new (errors.Failed error) lt p q = tt

pub strings_done : {X : Type 0} (see : X → List (List ℕ)) (count : ℕ) (x : X) (i : ℕ) (old new : Left) → count ≤ i
    → Collects count (see x) i old new → GivesAs see (strings_at count) old new (succeeds x)
strings_done see count x i old new le p = Between_as old new (λ xs ys a. a ∙ strings_end (see x) count i ys le) p
