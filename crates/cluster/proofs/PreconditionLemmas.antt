-- A step of a cluster's object that no cause refuses may be made.
use Rattle.std.proofs.Common.{◌≡◌, ℕ, Bool, true, false, not, bytes_eq, if◌then◌else◌, List, [], ◌∷◌, slice_get}
use Rattle.std.proofs.Common.{Option, Some, None, refl, sym, ap, subst, ◌∙◌}
use Rattle.std.specs.List.{AllByRecursion}
use Rattle.tag.specs.declared.refusal.Refusal.{Refusal}
use Rattle.encoder.specs.Fragment.{fragment}
use Rattle.layout.specs.Layout.{Layout, IsLawful}
use Rattle.mail.specs.declared.message.Message.{Message}
use Rattle.mail.specs.declared.message.Body.{Body}
use Rattle.mail.specs.declared.message.Body.TheVariants as body
use Rattle.record.specs.Preconditions.{MayStep}
use Rattle.record.specs.Records.{IsNewId, Object, no_layout}
use Rattle.record.specs.Steps.{Step}
use Rattle.register.specs.Act.{HasLawfulValues, act_cause, step_of}
use Rattle.register.specs.Kept.{has_open_move}
use Rattle.register.specs.Retiring.{retire_cause}
use Rattle.register.specs.State.{State, next_id}
use Rattle.register.specs.declared.act.Act.{Act}
use Rattle.soundness.proofs.ListLemmas.{all_get}
use Rattle.std.proofs.lemmas.Option.{get_or_from_slice_get}
use Rattle.register.proofs.ListLemmas.{same_some}
use Rattle.register.proofs.NewMoveLemmas.{none_open}
use Rattle.register.proofs.PreconditionLemmas.{some_message}
use Rattle.register.proofs.RoomLemmas.{not_true, passed}
use Rattle.cluster.specs.Causes.{if_object, moving_cause, next, object_cause, message_cause, serving_cause}
use Rattle.cluster.specs.Cluster.{Cluster, Named, next_call_id, layout_numbered, named, next_id_in}
use Rattle.cluster.specs.Preconditions.{MayMake}
use Rattle.cluster.proofs.LookupLemmas.{Entry, IsAt, named_at}
use Rattle.cluster.proofs.MoveRefusalLemmas.{with_layout}
use Rattle.cluster.proofs.ObjectStepLemmas.{cluster_of}

-- a step of the object that a look-up found
pub may_at : {servers : List Bool} {layouts : List Layout} {counter : ℕ} {entries : List Entry} {name : List ℕ} {place : ℕ}
    {old : State} {now : Cluster} → cluster_of servers layouts entries counter ≡ now → IsAt entries name place old → (step : Step)
    → MayStep fragment old.object step → MayMake now name step
may_at {name = name} {old = old} same at step may =
    (old, ap (λ (k : Cluster). named k.objects name) (sym same) ∙ named_at at, may)

-- an act of the object, or its retiring, that no cause refuses may be made
pub record IsAllowing (state : State) : Type 0 where
  pub acts : (a : Act) (now : ℕ) → HasLawfulValues a → act_cause a now state.object ≡ None
      → MayStep fragment state.object (step_of (next_id state.object) a)
  pub next : IsNewId state.object (next_id state.object)
  pub retire : (position now : ℕ) → retire_cause now state.object position ≡ None → MayStep fragment state.object Step.Retire

-- where nothing refuses, there is an object of this name
some_object : (o : Option State) (cause : Object → Option Refusal) → if_object o cause ≡ None
    → (state : State) × (o ≡ Some state) × (cause state.object ≡ None)
some_object None cause none = absurd (cc)
some_object (Some state) cause none = (state, refl, none)

-- what holds of each object holds of the one of this name
held_named : (P : State → Type 0) (objects : List Named) (name : List ℕ) (state : State) → AllByRecursion (λ o. P o.state) objects
    → named objects name ≡ Some state → P state
held_named P [] name state all at = absurd (cc)
held_named P (o ∷ os) name state all at = pick (bytes_eq name o.name) (held_named P os name state all.1) at
  where
    pick : (b : Bool) → (named os name ≡ Some state → P state) → (if b then Some o.state else named os name) ≡ Some state → P state
    pick true later e = subst P (same_some o.state state e) all.0
    pick false later e = later e

module _ (cluster : Cluster) (name : List ℕ) where
  pub allowed_act : AllByRecursion (λ o. IsAllowing o.state) cluster.objects → (a : Act) → HasLawfulValues a
      → object_cause cluster name (act_cause a (next cluster)) ≡ None → MayMake cluster name (step_of (next_call_id cluster name) a)
  allowed_act all a lawful none =
      let found = some_object (named cluster.objects name) _ none in
      let held = held_named IsAllowing cluster.objects name found.0 all found.1 in (
        found.0,
        found.1,
        subst (λ n. MayStep fragment found.0.object (step_of n a)) (sym (ap next_id_in found.1))
            (held.acts a (next cluster) lawful found.2),
      )

  pub allowed_retire : AllByRecursion (λ o. IsAllowing o.state) cluster.objects → (position : ℕ)
      → object_cause cluster name (λ object. retire_cause (next cluster) object position) ≡ None → MayMake cluster name Step.Retire
  allowed_retire all position none =
      let found = some_object (named cluster.objects name) _ none in
      let held = held_named IsAllowing cluster.objects name found.0 all found.1 in
      (found.0, found.1, held.retire position (next cluster) found.2)

  may_move : AllByRecursion IsLawful cluster.layouts → (id number : ℕ) (object : Object) → IsNewId object number
      → moving_cause cluster id object ≡ None → MayStep fragment object (Step.CallMove number (layout_numbered cluster id))
  may_move lawful id number object is_new none =
      let open_none = passed (not (has_open_move object.calls)) _ _ none in
      let there = with_layout (slice_get cluster.layouts id) _ open_none.1 in (
        is_new,
        subst IsLawful (sym (get_or_from_slice_get cluster.layouts id there.0 no_layout there.1.0))
            (all_get IsLawful cluster.layouts id there.0 lawful there.1.0),
        none_open object (not_true (has_open_move object.calls) open_none.0),
      )

  pub allowed_move : AllByRecursion (λ o. IsAllowing o.state) cluster.objects → AllByRecursion IsLawful cluster.layouts → (id : ℕ)
      → object_cause cluster name (moving_cause cluster id) ≡ None
      → MayMake cluster name (Step.CallMove (next_call_id cluster name) (layout_numbered cluster id))
  allowed_move all lawful id none =
      let found = some_object (named cluster.objects name) _ none in
      let held = held_named IsAllowing cluster.objects name found.0 all found.1 in (
        found.0,
        found.1,
        subst (λ n. MayStep fragment found.0.object (Step.CallMove n (layout_numbered cluster id))) (sym (ap next_id_in found.1))
            (may_move lawful id (next_id found.0.object) found.0.object held.next found.2),
      )

  may_serve : (place : ℕ) (object : Object) (message : Message) (it : Body) → slice_get object.mail place ≡ Some message
      → message.body ≡ it → message_cause cluster object message it ≡ None → MayStep fragment object (Step.Serve place)
  may_serve place object message (body.Request asked) at is none = (message, (at, (asked, is)))
  may_serve place object message (body.Reply kind made) at is none = absurd (cc)

  pub allowed_serve : (place : ℕ) → object_cause cluster name (serving_cause cluster place) ≡ None
      → MayMake cluster name (Step.Serve place)
  allowed_serve place none =
      let found = some_object (named cluster.objects name) _ none in
      let m = some_message (slice_get found.0.object.mail place) _ found.2 in
      (found.0, found.1, may_serve place found.0.object m.0 m.0.body m.1 refl m.2)
