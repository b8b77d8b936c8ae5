-- A step of the object that a look-up found: the cluster once it is written back, what the cluster keeps, and the cause of a refusal.
use Rattle.std.proofs.Common.{◌≡◌, ℕ, suc, ◌+◌, ◌≤◌, ◌<◌, false, Bool}
use Rattle.std.proofs.Common.{List, length, Option, Some, is_some, Result, Ok, Err, OnErr, IsErrAnd, sym, ap, subst, ◌∙◌, arith, add-one}
use Rattle.std.specs.Map.{lookup}
use Rattle.tag.specs.Refusal.{IsExactlyByCause}
use Rattle.tag.specs.declared.limits.TheConstants.{MOST_BYTES, MOST_STEPS}
use Rattle.tag.specs.declared.refusal.Refusal.{Refusal}
use Rattle.tag.specs.declared.refusal.Refusal.TheVariants.{NoObject}
use Rattle.indexmap.specs.IndexMap.{set_value_at}
use Rattle.layout.specs.Layout.{Layout}
use Rattle.encoder.specs.Fragment.{fragment}
use Rattle.record.specs.Records.{Object}
use Rattle.record.specs.Steps.{Step}
use Rattle.record.specs.Steps as of
use Rattle.register.specs.Position.{all_bytes}
use Rattle.register.specs.State.{State, made, next_id}
use Rattle.cluster.specs.Causes.{next, if_object, object_cause}
use Rattle.cluster.specs.Cluster.{Cluster, next_call_id, if_some, if_named, next_id_in}
use Rattle.cluster.specs.Kept.{HasMembersBelow, IsKeptCluster}
use Rattle.cluster.specs.Steps.{with_step}
use Rattle.cluster.proofs.LookupLemmas.{Entry, objects_of, is_name, IsAt, named_none, named_at, changed_at, same_at}
use Rattle.cluster.proofs.StepEffectLemmas.{IsQuiet, IsCalled, IsMoved, IsServed}
use Rattle.cluster.proofs.StepInvariantLemmas.{placed, quiet_kept, call_kept, move_kept, serve_kept}

-- a cluster with these entries
abbrev pub cluster_of : List Bool → List Layout → List Entry → ℕ → Cluster
cluster_of servers layouts entries counter =
    record { servers = servers; layouts = layouts; objects = objects_of entries; counter = counter }

few_is : (counter : ℕ) → counter + 1 ≤ MOST_STEPS → suc counter ≤ MOST_STEPS
few_is counter few = omega (arith, few)

-- the number of the next step
pub next_is : {cluster now : Cluster} → cluster ≡ now → next now ≡ cluster.counter + 1
next_is {cluster} same = ap next (sym same) ∙ sym (add-one cluster.counter)

-- where there is no object of this name
pub no_object : {servers : List Bool} {layouts : List Layout} {counter : ℕ} {now : Cluster} (entries : List Entry) (name : List ℕ) →
    cluster_of servers layouts entries counter ≡ now → false ≡ is_some (lookup (is_name name) entries) →
    (cause : Object → Option Refusal) → object_cause now name cause ≡ Some NoObject
no_object entries name same none cause =
    ap (λ (k : Cluster). object_cause k name cause) (sym same) ∙ ap (λ o. if_object o cause) (named_none entries name none)

module _ {servers : List Bool} {layouts : List Layout} {counter : ℕ} {entries : List Entry} {name : List ℕ}
    {place : ℕ} {old : State} where
  -- the cluster once the step is written back
  pub step_at : {new : State} → IsAt entries name place old → (step : Step) →
      new ≡ made step (counter + 1) old → cluster_of servers layouts (set_value_at entries place new) (counter + 1)
      ≡ with_step (cluster_of servers layouts entries counter) name step
  step_at at step is = cc (add-one counter, changed_at at (made step (suc counter)))

  pub stepped_at : {new : State} {now : Cluster} → cluster_of servers layouts entries counter ≡ now →
      IsAt entries name place old → (step : Step) → new ≡ made step (counter + 1) old →
      cluster_of servers layouts (set_value_at entries place new) (counter + 1) ≡ with_step now name step
  stepped_at same at step is = step_at at step is ∙ ap (λ k. with_step k name step) same

  -- where the step is refused the cluster is as it was
  pub unchanged_at : {new : State} → IsAt entries name place old → new ≡ old
      → cluster_of servers layouts (set_value_at entries place new) counter ≡ cluster_of servers layouts entries counter
  unchanged_at at is = cc (same_at at)

  -- the object's last step is before the next one
  pub last_before : {bytes count : ℕ} → IsKeptCluster (cluster_of servers layouts entries counter) bytes count →
      IsAt entries name place old → old.last < counter + 1
  last_before kept at = let p = placed name old kept (named_at at) in let past = p.1.past in omega (arith, past)

  -- what the cluster keeps
  pub quiet_at : {bytes count : ℕ} {new : State} → IsKeptCluster (cluster_of servers layouts entries counter) bytes count →
      IsAt entries name place old → (step : Step) → new ≡ made step (counter + 1) old → counter + 1 ≤ MOST_STEPS →
      ((object : Object) (now : ℕ) → IsQuiet object (of.stepped fragment step now object)) →
      IsKeptCluster (cluster_of servers layouts (set_value_at entries place new) (counter + 1)) bytes count
  quiet_at {bytes} {count} kept at step is few quiet =
      subst (λ k. IsKeptCluster k bytes count) (sym (step_at at step is))
      (quiet_kept _ bytes count name step old kept (named_at at) (few_is counter few) (quiet old.object (suc counter)))

  pub call_at : {bytes count : ℕ} {new : State} → IsKeptCluster (cluster_of servers layouts entries counter) bytes count →
      IsAt entries name place old → (step : Step) → new ≡ made step (counter + 1) old → counter + 1 ≤ MOST_STEPS →
      ((object : Object) (now : ℕ) → IsCalled object (of.stepped fragment step now object)) →
      IsKeptCluster (cluster_of servers layouts (set_value_at entries place new) (counter + 1)) bytes (count + 1)
  call_at {bytes} {count} kept at step is few called =
      subst (λ k. IsKeptCluster k bytes (count + 1)) (sym (step_at at step is))
      (call_kept _ bytes count name step old kept (named_at at) (few_is counter few) (called old.object (suc counter)))

  pub move_at : {bytes count : ℕ} {new : State} →
      IsKeptCluster (cluster_of servers layouts entries counter) bytes count → IsAt entries name place old →
      (id : ℕ) (layout : Layout) → new ≡ made (Step.CallMove id layout) (counter + 1) old → counter + 1 ≤ MOST_STEPS →
      ((object : Object) (now : ℕ) → IsMoved object layout (of.stepped fragment (Step.CallMove id layout) now object)) →
      HasMembersBelow (length servers) layout →
      IsKeptCluster (cluster_of servers layouts (set_value_at entries place new) (counter + 1)) bytes (count + 1)
  move_at {bytes} {count} kept at id layout is few moved below =
      subst (λ k. IsKeptCluster k bytes (count + 1)) (sym (step_at at (Step.CallMove id layout) is))
      (move_kept _ bytes count name (Step.CallMove id layout) old kept (named_at at) (few_is counter few) layout below
      (moved old.object (suc counter)))

  pub serve_at : {bytes count : ℕ} {new : State} → IsKeptCluster (cluster_of servers layouts entries counter) bytes count →
      IsAt entries name place old → (step : Step) → new ≡ made step (counter + 1) old → counter + 1 ≤ MOST_STEPS →
      ((object : Object) (now : ℕ) → IsServed object (of.stepped fragment step now object)) → (later : ℕ) →
      later + all_bytes old.object.banks ≡ bytes + all_bytes new.object.banks → later ≤ MOST_BYTES →
      IsKeptCluster (cluster_of servers layouts (set_value_at entries place new) (counter + 1)) later count
  serve_at {bytes} {count} kept at step is few served later same within =
      subst (λ k. IsKeptCluster k later count) (sym (step_at at step is))
      (serve_kept _ bytes count name step old kept (named_at at) (few_is counter few) later
      (same ∙ ap (λ (s : State). bytes + all_bytes s.object.banks) is
      ∙ ap (λ n. bytes + all_bytes (of.stepped fragment step n old.object).banks) (add-one counter))
      within (served old.object (suc counter)))

  -- what is read of the object
  pub read_at : {X : Type 0} {now : Cluster} → cluster_of servers layouts entries counter ≡ now → IsAt entries name place old →
      (read : Object → Option X) → if_named now name read ≡ read old.object
  read_at same at read = ap (λ (k : Cluster). if_named k name read) (sym same) ∙ ap (λ o. if_some o read) (named_at at)

  -- the id of its next call
  pub next_id_at : {now : Cluster} → cluster_of servers layouts entries counter ≡ now → IsAt entries name place old →
      next_call_id now name ≡ next_id old.object
  next_id_at same at = ap (λ (k : Cluster). next_call_id k name) (sym same) ∙ ap next_id_in (named_at at)

  -- the cause that is read from the object that was found; the second lemma is for causes that depend on the step
  pub own_cause_at : {now : Cluster} → cluster_of servers layouts entries counter ≡ now → IsAt entries name place old →
      (cause : Object → Option Refusal) → object_cause now name cause ≡ cause old.object
  own_cause_at same at cause = ap (λ (k : Cluster). object_cause k name cause) (sym same) ∙ ap (λ o. if_object o cause) (named_at at)

  pub cause_at : {now : Cluster} → cluster_of servers layouts entries counter ≡ now → IsAt entries name place old →
      (cause : ℕ → Object → Option Refusal) → object_cause now name (cause (next now)) ≡ cause (counter + 1) old.object
  cause_at {now} same at cause = own_cause_at same at (cause (next now)) ∙ ap (λ n. cause n old.object) (next_is same)

-- a refusal that is handed on is by its cause
pub exactly_refused : {T : Type 0} {cause : Option Refusal} (r : Result T Refusal) (refusal : Refusal) → IsErrAnd r (λ e. e ≡ refusal)
    → cause ≡ Some refusal → IsExactlyByCause cause r
exactly_refused (Ok x) refusal refused by = absurd refused
exactly_refused (Err e) refusal refused by = by ∙ ap Some (sym refused)

-- what a refusal leaves, where it is handed on
pub on_err : {T E : Type 0} {P : Type 0} (r : Result T E) → P → OnErr r P
on_err (Ok x) p = tt
on_err (Err e) p = p
