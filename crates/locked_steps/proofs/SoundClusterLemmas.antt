-- Each step that may be made keeps a cluster sound.
use Rattle.std.proofs.Common.{◌≡◌, ℕ, suc, ◌≤◌, not, is_some, Bool, true, false, if◌then◌else◌, inl, inr, List, [], ◌∷◌, ◌++◌}
use Rattle.std.proofs.Common.{Option, Some, None, bytes_eq, refl, sym, ap, subst, ◌∙◌, arith}
use Rattle.std.specs.List.{AllByRecursion}
use Rattle.std.proofs.lemmas.Slice.Eq.{bytes_eq-Decides}
use Rattle.tag.specs.declared.refusal.Refusal.{Refusal}
use Rattle.tag.specs.declared.refusal.Refusal.TheVariants.{ObjectExists}
use Rattle.layout.specs.Layout.{IsLawful}
use Rattle.encoder.specs.Fragment.{fragment}
use Rattle.soundness.specs.Sound.{IsSound}
use Rattle.record.specs.Steps.{Step, opened_object}
use Rattle.register.proofs.FragmentCodeLemmas.{fragments_are_code}
use Rattle.soundness.proofs.Sound.OpenedObjectLemmas.{opening_sound}
use Rattle.soundness.proofs.Sound.RunSoundLemmas.{step_sound}
use Rattle.register.specs.Causes.{unless}
use Rattle.register.specs.State.{State, made}
use Rattle.soundness.proofs.ListLemmas.{all_push}
use Rattle.register.proofs.ListLemmas.{all_weaker}
use Rattle.cluster.specs.Causes.{create_cause}
use Rattle.cluster.specs.Cluster.{Named, Cluster, named, layout_numbered}
use Rattle.cluster.specs.Preconditions.{MayMake}
use Rattle.cluster.specs.Steps.{with_step, created}
use Rattle.cluster.proofs.ChangedObjectLemmas.{all_changed, all_named}
use Rattle.locked_steps.specs.Course.{IsStep, IsSoundCluster}

-- the object's record is sound after its last step
abbrev HasSoundRecord : Named → Type 0
HasSoundRecord o = IsSound fragment o.state.object o.state.last

-- the object's last step is not later than this one
abbrev IsPastAt : (counter : ℕ) → Named → Type 0
IsPastAt counter o = o.state.last ≤ counter

later : (counter : ℕ) (objects : List Named) → AllByRecursion (IsPastAt counter) objects → AllByRecursion (IsPastAt (suc counter)) objects
later counter objects all =
    all_weaker (IsPastAt counter) (IsPastAt (suc counter)) objects (λ o past. (omega (arith, past))) all

object_keeps : (old : Cluster) (name : List ℕ) (step : Step) → MayMake old name step → IsSoundCluster old
    → IsSoundCluster (with_step old name step)
object_keeps old name step may sound =
    let state : State = may.0 in
    let change : State → State = made step (suc old.counter) in
    let past : state.last ≤ old.counter =
    (all_named name (λ s. s) state (IsPastAt old.counter) old.objects may.1 sound.past).1 in
    record {
      records = all_changed name change state HasSoundRecord old.objects may.1
          (λ n before. step_sound fragment state.object state.last (suc old.counter) fragments_are_code (omega (arith, past)) before
          step may.2)
          sound.records;
      past = all_changed name change state (IsPastAt (suc old.counter)) old.objects may.1
          (λ n before. (omega arith))
          (later old.counter old.objects sound.past);
    }

created_keeps : (old : Cluster) (name : List ℕ) (id : ℕ) (delta : Option ℕ) → IsLawful (layout_numbered old id) → IsSoundCluster old
    → IsSoundCluster (created old name id delta)
created_keeps old name id delta lawful sound =
    let object : Named = record {
      name = name;
      state = record { object = opened_object (layout_numbered old id) delta (suc old.counter); last = suc old.counter };
    } in
    record {
      records = all_push HasSoundRecord old.objects object sound.records
          (opening_sound fragment fragments_are_code (layout_numbered old id) delta (suc old.counter) lawful);
      past = all_push (IsPastAt (suc old.counter)) old.objects object (later old.counter old.objects sound.past) (omega arith);
    }

pub step_keeps : (old new : Cluster) → IsStep old new → IsSoundCluster old → IsSoundCluster new
step_keeps old new (inl s) sound =
    subst (λ (c : Cluster). IsSoundCluster c) (sym s.1.1.1) (object_keeps old s.0 s.1.0 s.1.1.0 sound)
step_keeps old new (inr (inl s)) sound =
    subst (λ (c : Cluster). IsSoundCluster c) (sym s.1.1.1)
    (record { records = sound.records; past = later old.counter old.objects sound.past })
step_keeps old new (inr (inr (inl s))) sound =
    subst (λ (c : Cluster). IsSoundCluster c) (sym s.1.1.1.1.1) (created_keeps old s.0 s.1.0 s.1.1.0 s.1.1.1.1.0 sound)
step_keeps old new (inr (inr (inr s))) sound =
    subst (λ (c : Cluster). IsSoundCluster c) (sym s.1.1.1)
    (record { records = sound.records; past = later old.counter old.objects sound.past })

-- an object that is added is found by its name, where no other has it
found_added : (objects : List Named) (name : List ℕ) (state : State) → named objects name ≡ None
    → named (objects ++ record { name = name; state = state } ∷ []) name ≡ Some state
found_added [] name state none =
    ap (λ b. if b then Some state else None) ((bytes_eq-Decides name name).1 refl)
found_added (o ∷ objects) name state none = pick (bytes_eq name o.name) (λ h. found_added objects name state h) none
  where
    pick : (b : Bool) → (named objects name ≡ None → named (objects ++ record { name = name; state = state } ∷ []) name ≡ Some state)
        → (if b then Some o.state else named objects name) ≡ None
        → (if b then Some o.state else named (objects ++ record { name = name; state = state } ∷ []) name) ≡ Some state
    pick true rest none = absurd (cc)
    pick false rest none = rest none

-- a name is free where an object of this name is created
free : (cluster : Cluster) (name : List ℕ) (id : ℕ) → create_cause cluster name id ≡ None → named cluster.objects name ≡ None
free cluster name id none = go (named cluster.objects name) _ none
  where
    go : (o : Option State) (rest : Option Refusal) → unless (not (is_some o)) ObjectExists rest ≡ None → o ≡ None
    go None rest e = refl
    go (Some state) rest e = absurd (cc)

-- an object that was created, and is sound, has a lawful layout
pub created_lawful : (old new : Cluster) (name : List ℕ) (id : ℕ) (delta : Option ℕ) → create_cause old name id ≡ None
    → new ≡ created old name id delta
    → ((state : State) → named new.objects name ≡ Some state → IsSound fragment state.object state.last)
    → IsLawful (layout_numbered old id)
created_lawful old new name id delta none made sound =
    let state : State =
    record { object = opened_object (layout_numbered old id) delta (suc old.counter); last = suc old.counter } in
    let there : named new.objects name ≡ Some state =
    ap (λ (c : Cluster). named c.objects name) made ∙ found_added old.objects name state (free old name id none) in
    (sound state there).legal.layouts.0
