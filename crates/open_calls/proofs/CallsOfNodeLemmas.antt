-- The open calls of one node among all open calls, which have distinct ids.
use Rattle.std.proofs.Common.{◌≡◌, ℕ, Bool, true, false, cond, eqb, not, List, [], ◌∷◌, ◌++◌, Some, None}
use Rattle.std.proofs.Common.{refl, sym, ap, ◌∙◌, eqb-true, eq-eqb}
use Rattle.std.proofs.lemmas.Option.{same_Some}
use Rattle.std.specs.List.{AllByRecursion, filter}
use Rattle.open_calls.proofs.ListLemmas.{all_weaker}
use Rattle.open_calls.specs.OpenCalls.{NodeCall, open_call, with_open, without_call, NodeCallsDiffer}
use Rattle.open_calls.proofs.OpenCallLemmas.{found}

-- the calls that this node carries out
abbrev pub calls_of : (node : ℕ) → List NodeCall → List NodeCall
calls_of node calls = filter (λ call. eqb call.node node) calls

pub is_false : (b : Bool) → (b ≡ true → ⊥) → b ≡ false
is_false true no_true = absurd (no_true refl)
is_false false no_true = refl

pub differs : (a b : ℕ) → (a ≡ b → ⊥) → eqb a b ≡ false
differs a b other = is_false (eqb a b) (λ same. other (eqb-true a b same))

-- the call that is found is the only one with its id
pub only_one : (calls : List NodeCall) (id : ℕ) (call : NodeCall) → NodeCallsDiffer calls → open_call calls id ≡ Some call →
    AllByRecursion (λ other. other.id ≡ id → other ≡ call) calls
only_one [] id call distinct e = tt
only_one (first ∷ calls) id call distinct e =
    go (eqb first.id id) refl e (λ there. only_one calls id call distinct.1 there)
  where
    go : (b : Bool) → eqb first.id id ≡ b → cond b (Some first) (open_call calls id) ≡ Some call →
        (open_call calls id ≡ Some call → AllByRecursion (λ (other : NodeCall). other.id ≡ id → other ≡ call) calls) →
        AllByRecursion (λ (other : NodeCall). other.id ≡ id → other ≡ call) (first ∷ calls)
    go true t is rest =
        let here = eqb-true first.id id t in (
          λ same. same_Some first call is,
          all_weaker (λ (other : NodeCall). other.id ≡ first.id → ⊥) (λ (other : NodeCall). other.id ≡ id → other ≡ call)
              (λ other apart same. absurd (apart (same ∙ sym here))) calls distinct.0,
        )
    go false t is rest =
        (λ same. absurd (let wrong : false ≡ true = sym t ∙ eq-eqb first.id id same in cc), rest is)

-- what is found among the calls that pass a test is found among all, and passes the test
pub found_there : (test : NodeCall → Bool) (calls : List NodeCall) (id : ℕ) (call : NodeCall) → NodeCallsDiffer calls →
    open_call (filter test calls) id ≡ Some call → (open_call calls id ≡ Some call) × (test call ≡ true)
found_there test [] id call distinct e = absurd (cc)
found_there test (first ∷ calls) id call distinct e =
    go (test first) refl e (λ there. found_there test calls id call distinct.1 there)
  where
    go : (t : Bool) → test first ≡ t → open_call (cond t (first ∷ filter test calls) (filter test calls)) id ≡ Some call →
        (open_call (filter test calls) id ≡ Some call → (open_call calls id ≡ Some call) × (test call ≡ true)) →
        (cond (eqb first.id id) (Some first) (open_call calls id) ≡ Some call) × (test call ≡ true)
    go true t is rest = pick (eqb first.id id) is
      where
        pick : (b : Bool) → cond b (Some first) (open_call (filter test calls) id) ≡ Some call →
            (cond b (Some first) (open_call calls id) ≡ Some call) × (test call ≡ true)
        pick true s = (s, ap test (sym (same_Some first call s)) ∙ t)
        pick false s = rest s
    go false t is rest =
        let there = rest is in
        let one = found (λ (other : NodeCall). other.id ≡ first.id → ⊥) calls id call distinct.0 there.0 in
        let other = differs first.id id (λ same. one.0 (one.1 ∙ sym same)) in
        (ap (λ b. cond b (Some first) (open_call calls id)) other ∙ there.0, there.1)

-- without a call that is not there nothing changes
pub nothing_without : (calls : List NodeCall) (id : ℕ) → open_call calls id ≡ None → without_call id calls ≡ calls
nothing_without [] id e = refl
nothing_without (first ∷ calls) id e = go (eqb first.id id) e (λ there. nothing_without calls id there)
  where
    go : (b : Bool) → cond b (Some first) (open_call calls id) ≡ None →
        (open_call calls id ≡ None → without_call id calls ≡ calls) →
        cond (not b) (first ∷ without_call id calls) (without_call id calls) ≡ first ∷ calls
    go true is rest = absurd (cc)
    go false is rest = ap (λ l. first ∷ l) (rest is)

-- One call is changed

-- a call that passes the test is changed, as those with its id do
pub with_here : (test : NodeCall → Bool) (new : NodeCall) (calls : List NodeCall) → test new ≡ true →
    AllByRecursion (λ other. other.id ≡ new.id → test other ≡ test new) calls →
    filter test (with_open new calls) ≡ with_open new (filter test calls)
with_here test new [] passes same = refl
with_here test new (first ∷ calls) passes same =
    go (eqb first.id new.id) refl (test first) refl (with_here test new calls passes same.1)
  where
    go : (b : Bool) → eqb first.id new.id ≡ b → (t : Bool) → test first ≡ t →
        filter test (with_open new calls) ≡ with_open new (filter test calls) →
        cond (test (cond b new first)) (cond b new first ∷ filter test (with_open new calls)) (filter test (with_open new calls))
        ≡ with_open new (cond t (first ∷ filter test calls) (filter test calls))
    go true s true t rest =
        ap (λ u. cond u (new ∷ filter test (with_open new calls)) (filter test (with_open new calls))) passes
        ∙ ap (λ l. new ∷ l) rest ∙ ap (λ u. cond u new first ∷ with_open new (filter test calls)) (sym s)
    go true s false t rest =
        absurd (let wrong : false ≡ true = sym t ∙ same.0 (eqb-true first.id new.id s) ∙ passes in cc)
    go false s true t rest =
        ap (λ u. cond u (first ∷ filter test (with_open new calls)) (filter test (with_open new calls))) t
        ∙ ap (λ l. first ∷ l) rest ∙ ap (λ u. cond u new first ∷ with_open new (filter test calls)) (sym s)
    go false s false t rest =
        ap (λ u. cond u (first ∷ filter test (with_open new calls)) (filter test (with_open new calls))) t ∙ rest

-- a call that does not pass the test is changed, as those with its id do not
pub with_there : (test : NodeCall → Bool) (new : NodeCall) (calls : List NodeCall) → test new ≡ false →
    AllByRecursion (λ other. other.id ≡ new.id → test other ≡ test new) calls →
    filter test (with_open new calls) ≡ filter test calls
with_there test new [] fails same = refl
with_there test new (first ∷ calls) fails same =
    go (eqb first.id new.id) refl (test first) refl (with_there test new calls fails same.1)
  where
    go : (b : Bool) → eqb first.id new.id ≡ b → (t : Bool) → test first ≡ t →
        filter test (with_open new calls) ≡ filter test calls →
        cond (test (cond b new first)) (cond b new first ∷ filter test (with_open new calls)) (filter test (with_open new calls))
        ≡ cond t (first ∷ filter test calls) (filter test calls)
    go true s true t rest =
        absurd (let wrong : true ≡ false = sym t ∙ same.0 (eqb-true first.id new.id s) ∙ fails in cc)
    go true s false t rest =
        ap (λ u. cond u (new ∷ filter test (with_open new calls)) (filter test (with_open new calls))) fails ∙ rest
    go false s true t rest =
        ap (λ u. cond u (first ∷ filter test (with_open new calls)) (filter test (with_open new calls))) t
        ∙ ap (λ l. first ∷ l) rest
    go false s false t rest =
        ap (λ u. cond u (first ∷ filter test (with_open new calls)) (filter test (with_open new calls))) t ∙ rest

-- Some calls are gone

-- the order of two tests does not matter, and the first may be another one on those that pass the second
pub filter_swap : (p q r : NodeCall → Bool) → ((call : NodeCall) → p call ≡ true → q call ≡ r call) →
    (calls : List NodeCall) → filter p (filter q calls) ≡ filter r (filter p calls)
filter_swap p q r same [] = refl
filter_swap p q r same (first ∷ calls) = go (p first) refl (q first) refl (filter_swap p q r same calls)
  where
    go : (a : Bool) → p first ≡ a → (b : Bool) → q first ≡ b → filter p (filter q calls) ≡ filter r (filter p calls) →
        filter p (cond b (first ∷ filter q calls) (filter q calls)) ≡ filter r (cond a (first ∷ filter p calls) (filter p calls))
    go true s true t rest =
        ap (λ u. cond u (first ∷ filter p (filter q calls)) (filter p (filter q calls))) s
        ∙ ap (λ l. first ∷ l) rest
        ∙ ap (λ u. cond u (first ∷ filter r (filter p calls)) (filter r (filter p calls))) (sym t ∙ same first s)
    go true s false t rest =
        rest ∙ ap (λ u. cond u (first ∷ filter r (filter p calls)) (filter r (filter p calls))) (sym t ∙ same first s)
    go false s true t rest =
        ap (λ u. cond u (first ∷ filter p (filter q calls)) (filter p (filter q calls))) s ∙ rest
    go false s false t rest = rest

-- a test that leaves out only what another one leaves out too does not matter
pub filter_within : (p q : NodeCall → Bool) (calls : List NodeCall) →
    AllByRecursion (λ call. q call ≡ false → p call ≡ false) calls → filter p (filter q calls) ≡ filter p calls
filter_within p q [] all = refl
filter_within p q (first ∷ calls) all = go (q first) refl (filter_within p q calls all.1)
  where
    go : (b : Bool) → q first ≡ b → filter p (filter q calls) ≡ filter p calls →
        filter p (cond b (first ∷ filter q calls) (filter q calls)) ≡ cond (p first) (first ∷ filter p calls) (filter p calls)
    go true t rest = ap (λ l. cond (p first) (first ∷ l) l) rest
    go false t rest = rest ∙ ap (λ u. cond u (first ∷ filter p calls) (filter p calls)) (sym (all.0 t))

-- One more call

pub filter_push : (test : NodeCall → Bool) (new : NodeCall) (b : Bool) → test new ≡ b → (calls : List NodeCall) →
    filter test (calls ++ new ∷ []) ≡ filter test calls ++ cond b (new ∷ []) []
filter_push test new b is [] = ap (λ u. cond u (new ∷ []) []) is
filter_push test new b is (first ∷ calls) = go (test first) (filter_push test new b is calls)
  where
    go : (t : Bool) → filter test (calls ++ new ∷ []) ≡ filter test calls ++ cond b (new ∷ []) [] →
        cond t (first ∷ filter test (calls ++ new ∷ [])) (filter test (calls ++ new ∷ []))
        ≡ cond t (first ∷ filter test calls) (filter test calls) ++ cond b (new ∷ []) []
    go true rest = ap (λ l. first ∷ l) rest
    go false rest = rest

pub append_nothing : (calls : List NodeCall) → calls ++ [] ≡ calls
append_nothing [] = refl
append_nothing (first ∷ calls) = ap (λ l. first ∷ l) (append_nothing calls)
