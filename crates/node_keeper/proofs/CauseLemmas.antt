-- Why a call is refused at the object of a name of which the node has not heard: only for a value that is too long.
use Rattle.std.proofs.Common.{◌≡◌, ℕ, ◌∙◌, nat_eq, nat_lt, not, ◌&&◌, Bool, false, List, length, Option, None, Some, is_some}
use Rattle.std.proofs.Common.{Result, Ok, Err, IsErrAnd, inr, sym, ap, if◌then◌else◌}
use Rattle.std.specs.Cmp.Lexicographic.{pointwise}
use Rattle.indexmap.specs.IndexMap.{get}
use Rattle.tag.specs.Refusal.{IsByCause}
use Rattle.tag.specs.declared.limits.TheConstants.{LONGEST_VALUE}
use Rattle.tag.specs.declared.refusal.Refusal.{Refusal}
use Rattle.tag.specs.declared.refusal.Refusal.TheVariants.{NoMemory, TooLong}
use Rattle.local_object.specs.Doing.{move_refusal, read_refusal, write_refusal}
use Rattle.local_object.specs.Local.{LocalObject}
use Rattle.node_keeper.specs.declared.objects.Objects.{Objects}
use Rattle.node_keeper.specs.Objects.{found_or_new, new_of, objects_of}

-- the map has no object of this name
abbrev pub IsAbsent : Objects → (name : List ℕ) → Type 0
IsAbsent objects name = get (pointwise nat_eq) objects.by_name name ≡ None

-- a fact of the object of a name that is not in the map is one of the new object
of_new : {T : Type 0} (fact : LocalObject → T) (objects : Objects) (name : List ℕ) → IsAbsent objects name →
    fact (objects_of objects name) ≡ fact (new_of objects name)
of_new fact objects name absent = ap (λ o. fact (found_or_new o (new_of objects name))) absent

pub new_read : (objects : Objects) (name : List ℕ) (id : ℕ) → IsAbsent objects name →
    read_refusal (objects_of objects name) id ≡ None
new_read objects name id absent = of_new (λ local. read_refusal local id) objects name absent

-- whether a value is too long for an object that is not in the map
abbrev is_long : Objects → (name value : List ℕ) → Bool
is_long objects name value = not (is_some (get (pointwise nat_eq) objects.by_name name)) && nat_lt LONGEST_VALUE (length value)

pub new_write : (objects : Objects) (name : List ℕ) (id : ℕ) (value : List ℕ) → is_long objects name value ≡ false →
    IsAbsent objects name → write_refusal (objects_of objects name) id value ≡ None
new_write objects name id value short absent =
    of_new (λ local. write_refusal local id value) objects name absent
    ∙ ap (λ b. if b then Some TooLong else None)
    (sym (ap (λ o. not (is_some o) && nat_lt LONGEST_VALUE (length value)) absent) ∙ short)

pub new_move : (objects : Objects) (name : List ℕ) (id : ℕ) → IsAbsent objects name →
    move_refusal (objects_of objects name) id ≡ None
new_move objects name id absent = of_new (λ local. move_refusal local id) objects name absent

-- a refusal for memory that is handed on, where nothing else is a cause
pub handed_on : {T : Type 0} {refusal : Refusal} (r : Result T Refusal) → IsErrAnd r (λ e. e ≡ refusal) →
    refusal ≡ NoMemory → {cause : Option Refusal} → cause ≡ None → IsByCause cause r
handed_on (Ok x) refused is none = absurd refused
handed_on (Err e) refused is none = inr (none, refused ∙ is)
