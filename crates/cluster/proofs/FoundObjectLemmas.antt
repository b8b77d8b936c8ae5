-- What is read of the object that a look-up gives.
use Rattle.std.proofs.Common.{◌≡◌, ℕ, List, Option, Some, None, Result, Ok, Err, IfOk, ap}
use Rattle.tag.specs.declared.refusal.Refusal.{Refusal}
use Rattle.tag.specs.declared.refusal.Refusal.TheVariants.{NoObject}
use Rattle.record.specs.Records.{Object}
use Rattle.register.specs.State.{State}
use Rattle.cluster.specs.Causes.{if_object, object_cause}
use Rattle.cluster.specs.Cluster.{Cluster, named, if_some, if_named}

-- the object of this name
pub record IsFound (now : Cluster) (name : List ℕ) (old : State) : Type 0 where
  pub here : named now.objects name ≡ Some old

pub read_found : {now : Cluster} {name : List ℕ} {old : State} {X : Type 0} → IsFound now name old → (read : Object → Option X)
    → if_named now name read ≡ read old.object
read_found found read = ap (λ o. if_some o read) found.here

pub cause_found : {now : Cluster} {name : List ℕ} {old : State} → IsFound now name old → (cause : Object → Option Refusal)
    → object_cause now name cause ≡ cause old.object
cause_found found cause = ap (λ o. if_object o cause) found.here

-- there is none of a name that was not found
pub none_at : (now : Cluster) (name : List ℕ) (cause : Object → Option Refusal) → named now.objects name ≡ None
    → object_cause now name cause ≡ Some NoObject
none_at now name cause none = ap (λ o. if_object o cause) none

-- if a fact holds of an answer, so does each fact that follows from it
pub if_ok : {T E : Type 0} {P Q : T → Type 0} (answer : Result T E) → ((x : T) → P x → Q x) → IfOk answer P → IfOk answer Q
if_ok (Ok x) change says = change x says
if_ok (Err e) change says = says
