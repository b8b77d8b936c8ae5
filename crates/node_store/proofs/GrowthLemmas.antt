-- How known bytes grow and are consumed, one part after another; and lists that grow at their end.
use Rattle.std.proofs.Common.{◌≡◌, ℕ, ◌+◌, ◌<◌, List, [], ◌∷◌, ◌++◌, length, get_or, take, Option, Some, None, sym, ap, subst, ◌∙◌}
use Rattle.std.proofs.Common.{refl, append_assoc, append-nil, OnOk, Result, Ok, Err, ◌≤◌, ◌-◌, ◌^◌, min, arith}
use Rattle.std.specs.List.{flat_map, FoldsTo, AllByRecursion}
use Rattle.std.specs.Io.KnownBytes.{Appends, Consumes, Keeps}
use Rattle.std.proofs.lemmas.Grind.{common_steps, flat_map-append}
use Rattle.std.proofs.lemmas.List.{take_more}
use Rattle.node_log.specs.Reading.{HadLeft}
use Rattle.frames.specs.Writing.{Writes}
use Rattle.node_store.specs.Logs.{Grows}
use Rattle.node_store.specs.Rewriting.{HasLengthened}

-- what is known of some bytes
abbrev pub Known : Type 0
Known = Option (List ℕ)

pub appends_then : (a b c : Known) (xs ys : List ℕ) → Appends a b xs → Appends b c ys → Appends a c (xs ++ ys)
appends_then None b c xs ys p q = tt
appends_then (Some us) None c xs ys p q = absurd p
appends_then (Some us) (Some vs) None xs ys p q = absurd q
appends_then (Some us) (Some vs) (Some ws) xs ys p q = q ∙ ap (λ (t : List ℕ). t ++ ys) p ∙ append_assoc us xs ys

pub appends_none : (a : Known) → Appends a a []
appends_none None = tt
appends_none (Some xs) = sym (append-nil xs)

pub lengthened_none : (a : Known) (n : ℕ) → n ≤ 2 ^ 64 - 1 → HasLengthened a a n n
lengthened_none a n fits = ([], appends_none a, grind (arith, common_steps))

pub lengthened_then : (a b c : Known) (before middle now : ℕ) (more : List ℕ) → HasLengthened a b before middle
    → Appends b c more → now ≡ min (middle + length more) (2 ^ 64 - 1) → HasLengthened a c before now
lengthened_then a b c before middle now more (bytes, appended, is) then is_now =
    (bytes ++ more, appends_then a b c bytes more appended then, grind (arith, common_steps))

pub appends_kept : (a b c : Known) (xs : List ℕ) → Appends a b xs → Keeps b c → Appends a c xs
appends_kept None b c xs p q = tt
appends_kept (Some us) None c xs p q = absurd p
appends_kept (Some us) (Some vs) None xs p q = absurd q
appends_kept (Some us) (Some vs) (Some ws) xs p q = q ∙ p

pub consumes_then : (a b c : Known) (xs ys : List ℕ) → Consumes a b xs → Consumes b c ys → Consumes a c (xs ++ ys)
consumes_then None b c xs ys p q = tt
consumes_then (Some us) None c xs ys p q = absurd p
consumes_then (Some us) (Some vs) None xs ys p q = absurd q
consumes_then (Some us) (Some vs) (Some ws) xs ys p q = p ∙ ap (λ (t : List ℕ). xs ++ t) q ∙ sym (append_assoc xs ys ws)

pub consumes_none : (a : Known) → Consumes a a []
consumes_none None = tt
consumes_none (Some xs) = refl

pub grows_none : (a : Known) → Grows a a
grows_none a = ([], appends_none a)

pub grows_twice : (a b c : Known) → Grows a b → Grows b c → Grows a c
grows_twice a b c p q = (p.0 ++ q.0, appends_then a b c p.0 q.0 p.1 q.1)

pub same_rest : (xs ys zs : List ℕ) → xs ++ ys ≡ xs ++ zs → ys ≡ zs
same_rest [] ys zs e = e
same_rest (x ∷ xs) ys zs e = same_rest xs ys zs (let rest : xs ++ ys ≡ xs ++ zs = cc in rest)

-- if bytes were appended to a log that was synced, and what it keeps is a front of what was written, it keeps a front of
-- these bytes
pub keeps_front : (kept keeps written wrote : Known) (bytes : List ℕ) → kept ≡ written → Grows kept keeps
    → Appends written wrote bytes → Grows keeps wrote
    → (front back : List ℕ) × (bytes ≡ front ++ back) × Appends kept keeps front
keeps_front None keeps written wrote bytes same grows appended within = ([], bytes, refl, tt)
keeps_front (Some us) None written wrote bytes same grows appended within = absurd grows.1
keeps_front (Some us) (Some vs) None wrote bytes same grows appended within = absurd (cc)
keeps_front (Some us) (Some vs) (Some ws) None bytes same grows appended within = absurd appended
keeps_front (Some us) (Some vs) (Some ws) (Some zs) bytes same grows appended within = (
  grows.0,
  within.0,
  same_rest us bytes (grows.0 ++ within.0)
      (ap (λ (t : List ℕ). t ++ bytes) (sames us ws same) ∙ sym appended ∙ within.1
      ∙ ap (λ (t : List ℕ). t ++ within.0) grows.1 ∙ append_assoc us grows.0 within.0),
  grows.1,
)
  where
    sames : (xs ys : List ℕ) → Some xs ≡ Some ys → xs ≡ ys
    sames xs ys e = cc

-- the same, if only a front of the bytes was appended
pub keeps_front_of : (kept keeps written wrote : Known) (bytes front back : List ℕ) → bytes ≡ front ++ back → kept ≡ written
    → Grows kept keeps → Appends written wrote front → Grows keeps wrote
    → (first last : List ℕ) × (bytes ≡ first ++ last) × Appends kept keeps first
keeps_front_of kept keeps written wrote bytes front back parts same grows appended within =
    let part = keeps_front kept keeps written wrote front same grows appended within in (
      part.0,
      part.1 ++ back,
      parts ∙ ap (λ (t : List ℕ). t ++ back) part.2 ∙ append_assoc part.0 part.1 back,
      part.3,
    )

-- bytes that are synced grow by none to the bytes that were written
pub grows_same : (a b : Known) → a ≡ b → Grows a b
grows_same a b e = subst (Grows a) e (grows_none a)

-- what a log that was synced keeps after bytes were appended and it was to be synced: these bytes, or a front of them
pub synced_writes : {T E : Type 0} (r : Result T E) (kept written middle wrote keeps : Known) (bytes : List ℕ) →
    kept ≡ written → Appends written middle bytes → Grows kept keeps → Keeps middle wrote → Grows keeps wrote →
    OnOk r (keeps ≡ wrote) → Writes kept keeps r bytes
synced_writes (Ok x) kept written middle wrote keeps bytes same appended grows stays within all =
    subst (λ k. Appends kept k bytes) (sym all)
    (subst (λ k. Appends k wrote bytes) (sym same) (appends_kept written middle wrote bytes appended stays))
synced_writes (Err e) kept written middle wrote keeps bytes same appended grows stays within all =
    keeps_front kept keeps written wrote bytes same grows (appends_kept written middle wrote bytes appended stays) within

-- a last part is appended to all others
pub appended_last : {T E : Type 0} (r : Result T E) (a b c : Known) (xs ys all : List ℕ) → xs ++ ys ≡ all → Appends a b xs
    → OnOk r (Appends b c ys) → OnOk r (Appends a c all)
appended_last (Ok x) a b c xs ys all is p q = subst (Appends a c) is (appends_then a b c xs ys p q)
appended_last (Err e) a b c xs ys all is p q = tt

-- what holds of the bytes behind those that were consumed
pub left_behind : (P : List ℕ → Type 0) (a b : Known) (xs : List ℕ) → Consumes a b xs → HadLeft P b
    → HadLeft (λ bytes. (rest : List ℕ) × (bytes ≡ xs ++ rest) × P rest) a
left_behind P None b xs p q = tt
left_behind P (Some us) None xs p q = absurd p
left_behind P (Some us) (Some vs) xs p q = (vs, p, q)

pub left_weaker : {P Q : List ℕ → Type 0} (a : Known) → ((bytes : List ℕ) → P bytes → Q bytes) → HadLeft P a → HadLeft Q a
left_weaker None h p = tt
left_weaker (Some xs) h p = h xs p

-- the bytes of one more element
pub bytes_more : {X : Type 0} (f : X → List ℕ) (xs : List X) (i : ℕ) (d x : X) → i < length xs → x ≡ get_or xs i d
    → flat_map f (take (i + 1) xs) ≡ flat_map f (take i xs) ++ f x
bytes_more {X = X} f xs i d x lt is =
    ap (λ (ys : List X). flat_map f ys) (take_more xs i d lt)
    ∙ flat_map-append f (take i xs) (get_or xs i d ∷ [])
    ∙ ap (λ (t : List ℕ). flat_map f (take i xs) ++ t) (append-nil (f (get_or xs i d)) ∙ ap f (sym is))

-- the bytes of a last element
pub bytes_push : {X : Type 0} (f : X → List ℕ) (xs : List X) (x : X) → flat_map f (xs ++ x ∷ []) ≡ flat_map f xs ++ f x
bytes_push f xs x = flat_map-append f xs (x ∷ []) ∙ ap (λ (t : List ℕ). flat_map f xs ++ t) (append-nil (f x))

pub all_push : {X : Type 0} (P : X → Type 0) (xs : List X) (x : X) → AllByRecursion P xs → P x → AllByRecursion P (xs ++ x ∷ [])
all_push P [] x all h = (h, tt)
all_push P (y ∷ ys) x all h = (all.0, all_push P ys x all.1 h)

module _ {V X : Type 0} (step : V → X → V → Type 0) where
  -- steps, and others behind them
  pub folds_then : (a : V) (xs : List X) (b : V) (ys : List X) (c : V) → FoldsTo step a xs b → FoldsTo step b ys c
      → FoldsTo step a (xs ++ ys) c
  folds_then a [] b ys c p q = subst (λ (v : V). FoldsTo step v ys c) (sym p) q
  folds_then a (x ∷ xs) b ys c p q = (p.0, p.1, folds_then p.0 xs b ys c p.2 q)
