-- How many reads and writes of all objects there are after each step.
use Rattle.std.proofs.Common.{◌≡◌, ℕ, suc, ◌+◌, ◌≤◌, Bool, true, false, if◌then◌else◌, List, [], ◌∷◌, ◌++◌, length}
use Rattle.std.proofs.Common.{Option, Some, None, Result, Ok, Err, OnOk, IfOk, bytes_eq, refl, sym, ap, ◌∙◌, arith}
use Rattle.tag.specs.Refusal.{IsByCause}
use Rattle.tag.specs.declared.refusal.Refusal.{Refusal}
use Rattle.layout.specs.Layout.{Layout}
use Rattle.record.specs.Records.{Call, Object}
use Rattle.record.specs.Steps.{Step, opened_object}
use Rattle.register.specs.State.{State, made}
use Rattle.register.proofs.ListLemmas.{same_some}
use Rattle.cluster.specs.Accounts.{object_sum, calls}
use Rattle.cluster.specs.Causes.{if_object, object_cause}
use Rattle.cluster.specs.Cluster.{Named, Cluster, named, with_changed, if_some, if_named}
use Rattle.cluster.specs.Steps as of
use Rattle.cluster.proofs.ChangedObjectLemmas.{sum_changed}
use Rattle.locked_steps.specs.Calls.{is_client, client_count, client_calls}
use Rattle.locked_steps.specs.Seats.{call_count}
use Rattle.locked_steps.proofs.ObjectCallCountLemmas.{begins, count_stepped}

abbrev count_of : State → ℕ
count_of state = client_count state.object.calls

-- a step of an existing object adds to the count the read or write that it begins, if it begins one
pub calls_stepped : (cluster : Cluster) (name : List ℕ) (step : Step) (old : State) → named cluster.objects name ≡ Some old
    → client_calls (of.with_step cluster name step) ≡ client_calls cluster + begins step
calls_stepped cluster name step old at =
    let all = sum_changed name (made step (suc cluster.counter)) old count_of cluster.objects at in
    omega (arith, all, count_stepped step (suc cluster.counter) old.object)

-- where there is no cause of refusal there is an object
pub there : (cluster : Cluster) (name : List ℕ) (cause : Object → Option Refusal) → object_cause cluster name cause ≡ None
    → (old : State) × (named cluster.objects name ≡ Some old)
there cluster name cause none = pick (named cluster.objects name) none
  where
    pick : (found : Option State) → if_object found cause ≡ None → (old : State) × (found ≡ Some old)
    pick None none = absurd (cc)
    pick (Some old) none = (old, refl)

-- a step that was made
pub counted_ok : {T : Type 0} (answer : Result T Refusal) (old new : Cluster) (name : List ℕ) (step : Step)
    (cause : Object → Option Refusal)
    → OnOk answer (new ≡ of.with_step old name step) → IsByCause (object_cause old name cause) answer
    → OnOk answer (client_calls new ≡ client_calls old + begins step)
counted_ok (Ok x) old new name step cause made by =
    let at = there old name cause by in
    ap client_calls made ∙ calls_stepped old name step at.0 at.1
counted_ok (Err e) old new name step cause made by = tt

-- the number of a call that began
pub numbered_ok : (answer : Result ℕ Refusal) (old : Cluster) (name : List ℕ)
    → IfOk answer (λ n. if_named old name (λ object. Some (suc (length object.calls))) ≡ Some n)
    → IfOk answer (λ n. n ≡ suc (call_count (named old.objects name)))
numbered_ok (Ok n) old name is = pick (named old.objects name) is
  where
    pick : (found : Option State) → if_some found (λ object. Some (suc (length object.calls))) ≡ Some n → n ≡ suc (call_count found)
    pick None is = absurd (cc)
    pick (Some state) is = sym (same_some (suc (length state.object.calls)) n is)
numbered_ok (Err e) old name is = tt

sum_kept : (name : List ℕ) (change : State → State) (objects : List Named) → ((state : State) → count_of (change state) ≡ count_of state)
    → object_sum (λ o. count_of o.state) (with_changed objects name change) ≡ object_sum (λ o. count_of o.state) objects
sum_kept name change [] same = refl
sum_kept name change (o ∷ os) same = pick (bytes_eq name o.name) (sum_kept name change os same)
  where
    pick : (b : Bool) → object_sum (λ x. count_of x.state) (with_changed os name change) ≡ object_sum (λ x. count_of x.state) os
        → object_sum (λ x. count_of x.state)
        (if b then record { name = o.name; state = change o.state } ∷ os else o ∷ with_changed os name change)
        ≡ count_of o.state + object_sum (λ x. count_of x.state) os
    pick true rest = let one = same o.state in omega (arith, one)
    pick false rest = omega (arith, rest)

-- a step that begins neither a read nor a write leaves the count as it is
pub calls_kept : (cluster : Cluster) (name : List ℕ) (step : Step) → begins step ≡ 0
    → client_calls (of.with_step cluster name step) ≡ client_calls cluster
calls_kept cluster name step none =
    sum_kept name (made step (suc cluster.counter)) cluster.objects (λ state.
    let one = count_stepped step (suc cluster.counter) state.object in omega (arith, one, none))

sum_pushed : (objects : List Named) (o : Named)
    → object_sum (λ x. count_of x.state) (objects ++ o ∷ []) ≡ object_sum (λ x. count_of x.state) objects + count_of o.state
sum_pushed [] o = omega arith
sum_pushed (x ∷ xs) o = let rest = sum_pushed xs o in omega (arith, rest)

-- one more object
pub calls_created : (cluster : Cluster) (name : List ℕ) (layout : Layout) (delta : Option ℕ)
    → client_calls (of.with_object cluster name layout delta) ≡ client_calls cluster
calls_created cluster name layout delta =
    let all =
    sum_pushed cluster.objects
    (record { name = name; state = record { object = opened_object layout delta (suc cluster.counter); last = suc cluster.counter } }) in
    omega (arith, all)

count_most : (calls : List Call) → client_count calls ≤ length calls
count_most [] = omega arith
count_most (c ∷ cs) = pick (is_client c.kind) (count_most cs)
  where
    pick : (b : Bool) → client_count cs ≤ length cs → (if b then suc (client_count cs) else client_count cs) ≤ suc (length cs)
    pick true rest = omega (arith, rest)
    pick false rest = omega (arith, rest)

sum_most : (objects : List Named) → object_sum (λ o. count_of o.state) objects ≤ calls objects
sum_most [] = omega arith
sum_most (o ∷ os) =
    omega (arith, sum_most os, count_most o.state.object.calls)

-- if no object has a call, no object has a read or a write
pub none_called : (cluster : Cluster) → calls cluster.objects ≡ 0 → client_calls cluster ≡ 0
none_called cluster none = let most = sum_most cluster.objects in omega (arith, most, none)
