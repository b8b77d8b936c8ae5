-- Reading from a reader, one part after another.
use Rattle.std.proofs.Common.{◌≡◌, List, ℕ, ◌++◌, Option, Some, None, Result, Ok, Err, sym, ap, subst, ◌∙◌}
use Rattle.std.specs.Io.KnownBytes.{Consumes}
use Rattle.frames.specs.declared.error.FrameError.{FrameError}
use Rattle.frames.specs.declared.error.FrameError.TheVariants as errors
use Rattle.frames.specs.Reading.{Parsed, Between, GivesAs, Returns}
use Rattle.words.specs.Parts.{and_then}

-- what a reader has left, where that is known
abbrev pub Left : Type 0
Left = Option (List ℕ)

abbrev pub fails : (X : Type 0) → FrameError → Result X FrameError
fails X e = Err e

abbrev pub succeeds : {X : Type 0} → X → Result X FrameError
succeeds x = Ok x

-- ---- before and after

pub Between_then : {P Q R : List ℕ → List ℕ → Type 0} (old mid new : Left) → ((xs ys zs : List ℕ) → P xs ys → Q ys zs → R xs zs)
    → Between P old mid → Between Q mid new → Between R old new
Between_then None mid new h p q = tt
Between_then (Some xs) None new h p q = absurd p
Between_then (Some xs) (Some ys) None h p q = absurd q
Between_then (Some xs) (Some ys) (Some zs) h p q = h xs ys zs p q

pub Between_as : {P Q : List ℕ → List ℕ → Type 0} (old new : Left) → ((xs ys : List ℕ) → P xs ys → Q xs ys)
    → Between P old new → Between Q old new
Between_as None new h p = tt
Between_as (Some xs) None h p = absurd p
Between_as (Some xs) (Some ys) h p = h xs ys p

pub Between_same : (P : List ℕ → List ℕ → Type 0) (old : Left) → ((xs : List ℕ) → P xs xs) → Between P old old
Between_same P None h = tt
Between_same P (Some xs) h = h xs

-- bytes that were taken stood at the front
pub Between_taken : (old new : Left) (front : List ℕ) → Consumes old new front → Between (λ xs ys. xs ≡ front ++ ys) old new
Between_taken None new front p = tt
Between_taken (Some xs) None front p = absurd p
Between_taken (Some xs) (Some ys) front p = p

-- ---- a part, and what follows it

-- a part that was read, and what follows it
pub then_ok_as : {X Y Z V : Type 0} (view : X → Y) (see : Z → V) (at : List ℕ → Parsed Y) (k : Y × List ℕ → Parsed V) (old mid new : Left)
    (x : X) (r : Result Z FrameError) → GivesAs view at old mid (Ok x) → GivesAs see (λ ys. k (view x, ys)) mid new r
    → GivesAs see (λ xs. and_then (at xs) k) old new r
then_ok_as {Y = Y} view see at k old mid new x (Ok z) p q =
    Between_then old mid new (λ xs ys zs a b. ap (λ (r : Parsed Y). and_then r k) a ∙ b) p q
then_ok_as {Y = Y} view see at k old mid new x (Err (errors.Fault fault)) p q =
    Between_then old mid new (λ xs ys zs a b. ap (λ (r : Parsed Y). and_then r k) a ∙ b) p q
then_ok_as view see at k old mid new x (Err errors.NoMemory) p q = tt
then_ok_as view see at k old mid new x (Err (errors.Failed error)) p q = tt

pub then_ok : {Y V : Type 0} (at : List ℕ → Parsed Y) (k : Y × List ℕ → Parsed V) (old mid new : Left) (x : Y) (r : Result V FrameError)
    → Returns at old mid (Ok x) → Returns (λ ys. k (x, ys)) mid new r → Returns (λ xs. and_then (at xs) k) old new r
then_ok at k old mid new x r p q = then_ok_as (λ y. y) (λ v. v) at k old mid new x r p q

-- a last part that was read, and the value that is made of it
pub then_last : {Y V : Type 0} (at : List ℕ → Parsed Y) (k : Y × List ℕ → Parsed V) (old new : Left) (x : Y) (z : V)
    → ((ys : List ℕ) → k (x, ys) ≡ Ok (z, ys)) → Returns at old new (Ok x) → Returns (λ xs. and_then (at xs) k) old new (Ok z)
then_last {Y = Y} at k old new x z h p = Between_as old new (λ xs ys a. ap (λ (r : Parsed Y). and_then r k) a ∙ h ys) p

-- a part that was not read
pub then_err_as : {X Y V : Type 0} (view : X → Y) (at : List ℕ → Parsed Y) (k : Y × List ℕ → Parsed V) (old new : Left) (e : FrameError)
    → GivesAs view at old new (fails X e) → Returns (λ xs. and_then (at xs) k) old new (fails V e)
then_err_as {Y = Y} view at k old new (errors.Fault fault) p = Between_as old new (λ xs ys a. ap (λ (r : Parsed Y). and_then r k) a) p
then_err_as view at k old new errors.NoMemory p = tt
then_err_as view at k old new (errors.Failed error) p = tt

pub then_err : {Y V : Type 0} (at : List ℕ → Parsed Y) (k : Y × List ℕ → Parsed V) (old new : Left) (e : FrameError)
    → Returns at old new (fails Y e) → Returns (λ xs. and_then (at xs) k) old new (fails V e)
then_err at k old new e p = then_err_as (λ y. y) at k old new e p

-- the same reading, said otherwise
pub Returns_as : {V : Type 0} (at by : List ℕ → Parsed V) (old new : Left) (r : Result V FrameError) → ((xs : List ℕ) → at xs ≡ by xs)
    → Returns by old new r → Returns at old new r
Returns_as at by old new (Ok z) h p = Between_as old new (λ xs ys a. h xs ∙ a) p
Returns_as at by old new (Err (errors.Fault fault)) h p = Between_as old new (λ xs ys a. h xs ∙ a) p
Returns_as at by old new (Err errors.NoMemory) h p = tt
Returns_as at by old new (Err (errors.Failed error)) h p = tt

-- an error, whatever the value would have been
pub GivesAs_err : {X Z Y : Type 0} (view : X → Y) (see : Z → Y) (at : List ℕ → Parsed Y) (old new : Left) (e : FrameError)
    → GivesAs view at old new (fails X e) → GivesAs see at old new (fails Z e)
GivesAs_err view see at old new (errors.Fault fault) p = p
GivesAs_err view see at old new errors.NoMemory p = tt
GivesAs_err view see at old new (errors.Failed error) p = tt

-- the same value, made otherwise
pub Returns_made : {V : Type 0} (at : List ℕ → Parsed V) (old new : Left) (x y : V) → y ≡ x → Returns at old new (succeeds x)
    → Returns at old new (succeeds y)
Returns_made {V = V} at old new x y is p = subst (λ (v : V). Returns at old new (succeeds v)) (sym is) p
