-- What is read of the object of a name, and its cause.
use Rattle.std.proofs.Common.{◌≡◌, ℕ, Bool, true, false, cond, bytes_eq, List, [], ◌∷◌, Option, Some, None, Result, Ok, Err, refl, sym, ap}
use Rattle.std.proofs.Common.{◌∙◌, inl, inr}
use Rattle.tag.specs.declared.refusal.Refusal.{Refusal}
use Rattle.tag.specs.Refusal.{IsByCause, IsExactlyByCause}
use Rattle.record.specs.Records.{Object}
use Rattle.register.specs.State.{State}
use Rattle.cluster.specs.Cluster.{Named, Cluster, named, with_changed, if_some, if_named}
use Rattle.cluster.specs.Causes.{if_object, object_cause}

module _ (cluster : Cluster) (name : List ℕ) where
  pub read_there : {X : Type 0} (state : State) (read : Object → Option X) → named cluster.objects name ≡ Some state
      → if_named cluster name read ≡ read state.object
  read_there state read there = ap (λ o. if_some o read) there

  pub cause_there : (state : State) (cause : Object → Option Refusal) → named cluster.objects name ≡ Some state
      → object_cause cluster name cause ≡ cause state.object
  cause_there state cause there = ap (λ o. if_object o cause) there

  pub is_there : {X : Type 0} (read : Object → Option X) (x : X) → if_named cluster name read ≡ Some x
      → (state : State) × (named cluster.objects name ≡ Some state) × (read state.object ≡ Some x)
  is_there {X} read x e = go (named cluster.objects name) refl e
    where
      go : (o : Option State) → named cluster.objects name ≡ o → if_some o read ≡ Some x
          → (state : State) × (named cluster.objects name ≡ Some state) × (read state.object ≡ Some x)
      go None is e = absurd (cc)
      go (Some state) is e = (state, is, e)

  pub same_cause : (a b : Object → Option Refusal)
      → ((state : State) → named cluster.objects name ≡ Some state → a state.object ≡ b state.object)
      → object_cause cluster name a ≡ object_cause cluster name b
  same_cause a b same = go (named cluster.objects name) refl
    where
      go : (o : Option State) → named cluster.objects name ≡ o → if_object o a ≡ if_object o b
      go None is = refl
      go (Some state) is = same state is

  pub one_state : (a b : State) → named cluster.objects name ≡ Some a → named cluster.objects name ≡ Some b → a ≡ b
  one_state a b e f = same a b (sym e ∙ f)
    where
      same : (a b : State) → Some a ≡ Some b → a ≡ b
      same a b e = cc

-- the object once it has changed
pub named_changed : (objects : List Named) (name : List ℕ) (change : State → State) (state : State) → named objects name ≡ Some state
    → named (with_changed objects name change) name ≡ Some (change state)
named_changed [] name change state e = absurd (cc)
named_changed (object ∷ objects) name change state e = go (named_changed objects name change state) (bytes_eq name object.name) refl
  where
    there : (a b : State) → Some a ≡ Some b → a ≡ b
    there a b e = cc

    go : (named objects name ≡ Some state → named (with_changed objects name change) name ≡ Some (change state)) → (b : Bool)
        → bytes_eq name object.name ≡ b
        → named (cond b (record { name = object.name; state = change object.state } ∷ objects) (object ∷ with_changed objects name change))
        name ≡ Some (change state)
    go rest true is = cc (there object.state state (sym (ap (λ b. cond b (Some object.state) (named objects name)) is) ∙ e))
    go rest false is = cc (rest (sym (ap (λ b. cond b (Some object.state) (named objects name)) is) ∙ e))

-- a result that follows from a cause also follows from each equal cause
pub by_cause : {T : Type 0} (a b : Option Refusal) (r : Result T Refusal) → a ≡ b → IsByCause a r → IsByCause b r
by_cause a b (Ok x) e h = sym e ∙ h
by_cause a b (Err r) e (inl some) = inl (sym e ∙ some)
by_cause a b (Err r) e (inr none) = inr (sym e ∙ none.0, none.1)

pub exactly : {T : Type 0} (a : Option Refusal) (r : Result T Refusal) → IsExactlyByCause a r → IsByCause a r
exactly a (Ok x) h = h
exactly a (Err r) h = inl h
