-- Open calls: the one that is found by its id, and lists in which one is changed or some are gone.
use Rattle.std.proofs.Common.{◌≡◌, ℕ, Bool, true, false, cond, eqb, List, [], ◌∷◌, ◌++◌, Some, None}
use Rattle.std.proofs.Common.{refl, sym, subst, ap, ◌∙◌, eqb-true, eq-eqb}
use Rattle.std.proofs.lemmas.Option.{same_Some}
use Rattle.std.specs.List.{AllByRecursion, filter}
use Rattle.open_calls.specs.OpenCalls.{NodeCall, open_call, with_open}

-- the call that is found is one of the list, and has the id
pub found : (P : NodeCall → Type 0) (calls : List NodeCall) (number : ℕ) (call : NodeCall) → AllByRecursion P calls →
    open_call calls number ≡ Some call → P call × (call.id ≡ number)
found P [] number call all e = absurd (cc)
found P (first ∷ calls) number call all e =
    go (eqb first.id number) refl e (λ rest. found P calls number call all.1 rest)
  where
    go : (b : Bool) → eqb first.id number ≡ b → cond b (Some first) (open_call calls number) ≡ Some call →
        (open_call calls number ≡ Some call → P call × (call.id ≡ number)) → P call × (call.id ≡ number)
    go true t is rest =
        let same = same_Some first call is in
        (subst P same all.0, ap (λ (c : NodeCall). c.id) (sym same) ∙ eqb-true first.id number t)
    go false t is rest = rest is

-- a call that passes a test is found among those that pass it
pub found_filter : (test : NodeCall → Bool) (calls : List NodeCall) (number : ℕ) (call : NodeCall) →
    open_call calls number ≡ Some call → test call ≡ true → open_call (filter test calls) number ≡ Some call
found_filter test [] number call e passes = absurd (cc)
found_filter test (first ∷ calls) number call e passes =
    go (eqb first.id number) refl (test first) refl e (λ rest. found_filter test calls number call rest passes)
  where
    go : (b : Bool) → eqb first.id number ≡ b → (t : Bool) → test first ≡ t →
        cond b (Some first) (open_call calls number) ≡ Some call →
        (open_call calls number ≡ Some call → open_call (filter test calls) number ≡ Some call) →
        open_call (cond t (first ∷ filter test calls) (filter test calls)) number ≡ Some call
    go true s true t is rest = ap (λ b. cond b (Some first) (open_call (filter test calls) number)) s ∙ is
    go true s false t is rest = absurd (let wrong : test first ≡ true = ap test (same_Some first call is) ∙ passes in cc)
    go false s true t is rest = ap (λ b. cond b (Some first) (open_call (filter test calls) number)) s ∙ rest is
    go false s false t is rest = rest is

pub all_filter : (P : NodeCall → Type 0) (test : NodeCall → Bool) (calls : List NodeCall) → AllByRecursion P calls →
    AllByRecursion P (filter test calls)
all_filter P test [] all = tt
all_filter P test (first ∷ calls) all = go (test first) (all_filter P test calls all.1)
  where
    go : (b : Bool) → AllByRecursion P (filter test calls) → AllByRecursion P (cond b (first ∷ filter test calls) (filter test calls))
    go true rest = (all.0, rest)
    go false rest = rest

-- what is so of each call after one is changed
pub all_with : (P Q : NodeCall → Type 0) (new : NodeCall) (calls : List NodeCall) → AllByRecursion P calls → Q new →
    ((other : NodeCall) → eqb other.id new.id ≡ false → P other → Q other) → AllByRecursion Q (with_open new calls)
all_with P Q new [] all here there = tt
all_with P Q new (first ∷ calls) all here there =
    (go (eqb first.id new.id) refl, all_with P Q new calls all.1 here there)
  where
    go : (b : Bool) → eqb first.id new.id ≡ b → Q (cond b new first)
    go true t = here
    go false t = there first t all.0

-- which call is found after one is changed
pub found_with : (new : NodeCall) (calls : List NodeCall) (number : ℕ) (call : NodeCall) → open_call calls number ≡ Some call →
    open_call (with_open new calls) number ≡ Some (cond (eqb number new.id) new call)
found_with new [] number call e = absurd (cc)
found_with new (first ∷ calls) number call e =
    go (eqb first.id number) refl (eqb first.id new.id) refl (eqb number new.id) refl e
    (λ rest. found_with new calls number call rest)
  where
    same : eqb first.id number ≡ true → eqb number new.id ≡ eqb first.id new.id
    same s = ap (λ k. eqb k new.id) (sym (eqb-true first.id number s))

    go : (b : Bool) → eqb first.id number ≡ b → (n : Bool) → eqb first.id new.id ≡ n →
        (m : Bool) → eqb number new.id ≡ m → cond b (Some first) (open_call calls number) ≡ Some call →
        (open_call calls number ≡ Some call → open_call (with_open new calls) number ≡ Some (cond (eqb number new.id) new call)) →
        open_call (cond n new first ∷ with_open new calls) number ≡ Some (cond m new call)
    go true s true t m u is rest =
        ap (λ b. cond b (Some new) (open_call (with_open new calls) number))
        (ap (λ k. eqb k number) (sym (eqb-true first.id new.id t)) ∙ s)
        ∙ ap (λ b. Some (cond b new call)) (sym t ∙ sym (same s) ∙ u)
    go true s false t m u is rest =
        ap (λ b. cond b (Some first) (open_call (with_open new calls) number)) s ∙ is
        ∙ ap (λ b. Some (cond b new call)) (sym t ∙ sym (same s) ∙ u)
    go false s true t m u is rest =
        ap (λ b. cond b (Some new) (open_call (with_open new calls) number))
        (ap (λ k. eqb k number) (sym (eqb-true first.id new.id t)) ∙ s)
        ∙ rest is ∙ ap (λ b. Some (cond b new call)) u
    go false s false t m u is rest =
        ap (λ b. cond b (Some first) (open_call (with_open new calls) number)) s
        ∙ rest is ∙ ap (λ b. Some (cond b new call)) u

-- one more call
pub found_push : (calls : List NodeCall) (new call : NodeCall) (number : ℕ) → open_call calls number ≡ Some call →
    open_call (calls ++ new ∷ []) number ≡ Some call
found_push [] new call number e = absurd (cc)
found_push (first ∷ calls) new call number e = go (eqb first.id number) e (λ rest. found_push calls new call number rest)
  where
    go : (b : Bool) → cond b (Some first) (open_call calls number) ≡ Some call →
        (open_call calls number ≡ Some call → open_call (calls ++ new ∷ []) number ≡ Some call) →
        cond b (Some first) (open_call (calls ++ new ∷ []) number) ≡ Some call
    go true is rest = is
    go false is rest = rest is

pub found_last : (calls : List NodeCall) (new : NodeCall) → AllByRecursion (λ call. eqb call.id new.id ≡ false) calls →
    open_call (calls ++ new ∷ []) new.id ≡ Some new
found_last [] new all = ap (λ b. cond b (Some new) None) (eq-eqb new.id new.id refl)
found_last (first ∷ calls) new all =
    ap (λ b. cond b (Some first) (open_call (calls ++ new ∷ []) new.id)) all.0 ∙ found_last calls new all.1
