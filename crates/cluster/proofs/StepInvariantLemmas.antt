-- What a cluster keeps over a step of one object.
use Rattle.std.proofs.Common.{◌≡◌, ℕ, suc, ◌+◌, ◌≤◌, Bool, true, false, if◌then◌else◌}
use Rattle.std.proofs.Common.{List, [], ◌∷◌, length, Some, bytes_eq, refl, sym, ap, subst, arith}
use Rattle.std.specs.List.{AllByRecursion}
use Rattle.tag.specs.declared.limits.TheConstants.{MOST_BYTES, MOST_OBJECTS, MOST_STEPS}
use Rattle.layout.specs.Layout.{Layout}
use Rattle.record.specs.Steps.{Step}
use Rattle.register.specs.Position.{all_bytes}
use Rattle.register.specs.State.{State, made}
use Rattle.soundness.proofs.ListLemmas.{all_push}
use Rattle.register.proofs.ListLemmas.{all_weaker}
use Rattle.cluster.specs.Cluster.{Named, Cluster, named, with_changed}
use Rattle.cluster.specs.Kept.{HasMembersBelow, AreBanked, IsPlaced, IsKeptCluster}
use Rattle.cluster.specs.Steps.{with_step}
use Rattle.cluster.proofs.ChangedObjectLemmas.{sum_changed, all_changed, all_named, apart_changed}
use Rattle.cluster.proofs.StepEffectLemmas.{IsQuiet, IsCalled, IsMoved, IsServed}

length_changed : (objects : List Named) (name : List ℕ) (change : State → State) →
    length (with_changed objects name change) ≡ length objects
length_changed [] name change = refl
length_changed (o ∷ os) name change = pick (bytes_eq name o.name) (length_changed os name change)
  where
    pick : (b : Bool) → length (with_changed os name change) ≡ length os
        → length (if b then record { name = o.name; state = change o.state } ∷ os else o ∷ with_changed os name change) ≡ suc (length os)
    pick true rest = refl
    pick false rest = ap suc rest

-- the object's last step is no later than the cluster's, and its layouts are of the cluster's servers
pub placed : {cluster : Cluster} {bytes count : ℕ} (name : List ℕ) (old : State) →
    IsKeptCluster cluster bytes count → named cluster.objects name ≡ Some old →
    (n : List ℕ) × IsPlaced (length cluster.servers) cluster.counter (record { name = n; state = old })
placed {cluster} name old kept here =
    all_named name (λ s. s) old (IsPlaced (length cluster.servers) cluster.counter) cluster.objects here kept.objects

module _ (cluster : Cluster) (bytes count : ℕ) (name : List ℕ) (step : Step) (old : State) (kept : IsKeptCluster cluster bytes count)
    (here : named cluster.objects name ≡ Some old) (few : suc cluster.counter ≤ MOST_STEPS) where
  abbrev new : State
  new = made step (suc cluster.counter) old

  abbrev later : Cluster
  later = with_step cluster name step

  -- the bytes and the calls by as much as this object's
  pub step_kept : (more_bytes more_count : ℕ) → (AllByRecursion (HasMembersBelow (length cluster.servers)) old.object.layouts →
      AllByRecursion (HasMembersBelow (length cluster.servers)) new.object.layouts) →
      (AreBanked old.object.layouts old.object.banks → AreBanked new.object.layouts new.object.banks) →
      more_bytes + all_bytes old.object.banks ≡ bytes + all_bytes new.object.banks → more_bytes ≤ MOST_BYTES →
      more_count + length old.object.calls ≡ count + length new.object.calls → more_count ≤ suc count →
      IsKeptCluster later more_bytes more_count
  step_kept more_bytes more_count layouts banked same_bytes within same_count few_calls = record {
    layouts = kept.layouts;
    objects = all_changed name (made step (suc cluster.counter)) old
        (IsPlaced (length cluster.servers) (suc cluster.counter)) cluster.objects here
        (λ n p. record { layouts = layouts p.layouts; banked = banked p.banked; past = omega arith })
        (all_weaker (IsPlaced (length cluster.servers) cluster.counter)
        (IsPlaced (length cluster.servers) (suc cluster.counter)) cluster.objects
        (λ o p. let past = p.past in record { layouts = p.layouts; banked = p.banked; past = omega (arith, past) }) kept.objects);
    apart = apart_changed name (made step (suc cluster.counter)) old cluster.objects here kept.apart;
    few_objects =
        subst (λ n. n ≤ MOST_OBJECTS) (sym (length_changed cluster.objects name (made step (suc cluster.counter)))) kept.few_objects;
    few_steps = few;
    stored = let all = sum_changed name (made step (suc cluster.counter)) old (λ s. all_bytes s.object.banks) cluster.objects here in
        omega (arith, all, kept.stored, same_bytes);
    within = within;
    called = let all = sum_changed name (made step (suc cluster.counter)) old (λ s. length s.object.calls) cluster.objects here in
        let before = kept.called in
        omega (arith, all, before, same_count);
    past = let before = kept.past in omega (arith, before, few_calls);
  }

  pub quiet_kept : IsQuiet old.object new.object → IsKeptCluster later bytes count
  quiet_kept quiet =
      let same = ap all_bytes quiet.banks in
      let length_same = quiet.calls in
      step_kept bytes count (λ all. subst (AllByRecursion (HasMembersBelow (length cluster.servers))) (sym quiet.layouts) all)
      (λ all. subst (λ bs. AreBanked new.object.layouts bs) (sym quiet.banks)
      (subst (λ ls. AreBanked ls old.object.banks) (sym quiet.layouts) all))
      (ap (λ n. bytes + n) (sym same)) kept.within (ap (λ n. count + n) (sym length_same)) (omega arith)

  pub call_kept : IsCalled old.object new.object → IsKeptCluster later bytes (count + 1)
  call_kept called =
      let same = ap all_bytes called.banks in
      let length_more = called.calls in
      step_kept bytes (count + 1) (λ all. subst (AllByRecursion (HasMembersBelow (length cluster.servers))) (sym called.layouts) all)
      (λ all. subst (λ bs. AreBanked new.object.layouts bs) (sym called.banks)
      (subst (λ ls. AreBanked ls old.object.banks) (sym called.layouts) all))
      (ap (λ n. bytes + n) (sym same)) kept.within (omega (arith, length_more)) (omega arith)

  pub move_kept : (layout : Layout) → HasMembersBelow (length cluster.servers) layout → IsMoved old.object layout new.object →
      IsKeptCluster later bytes (count + 1)
  move_kept layout below moved =
      let same = moved.banks in
      let length_more = moved.calls in
      step_kept bytes (count + 1) (λ all. subst (AllByRecursion (HasMembersBelow (length cluster.servers))) (sym moved.layouts)
      (all_push (HasMembersBelow (length cluster.servers)) old.object.layouts layout all below)) moved.banked
      (ap (λ n. bytes + n) (sym same)) kept.within (omega (arith, length_more)) (omega arith)

  pub serve_kept : (more_bytes : ℕ) → more_bytes + all_bytes old.object.banks ≡ bytes + all_bytes new.object.banks →
      more_bytes ≤ MOST_BYTES → IsServed old.object new.object → IsKeptCluster later more_bytes count
  serve_kept more_bytes same within served =
      let length_same = served.calls in
      step_kept more_bytes count
      (λ all. subst (AllByRecursion (HasMembersBelow (length cluster.servers))) (sym served.layouts) all) served.banked
      same within (ap (λ n. count + n) (sym length_same)) (omega arith)
