-- What becomes of an object that has taken a letter, and whether it may equal a new one.
use Rattle.std.proofs.Common.{ℕ, ◌≡◌, ◌∙◌, Bool, true, List, Option, Some, Result, Ok, Err, IfOk, nat_eq, subst, sym}
use Rattle.std.proofs.lemmas.Option.{same_Some}
use Rattle.std.specs.Cmp.Lexicographic.{pointwise}
use Rattle.indexmap.specs.IndexMap.{get}
use Rattle.layout.specs.Layout.{Layout}
use Rattle.letter.specs.declared.letter.Letter.{Letter}
use Rattle.local_object.specs.declared.progress.Ended.{Ended}
use Rattle.local_object.specs.Doing.{is_taken}
use Rattle.local_object.specs.Going.{IsSomeOutcome}
use Rattle.local_object.specs.Local.{LocalObject, new_local}
use Rattle.local_object.specs.Replies.{IsReplyOutcome}
use Rattle.node_keeper.specs.Doing.{IsReplyOutcomeAt}
use Rattle.node_keeper.specs.NewObjects.{IsToldIfNew}
use Rattle.node_keeper.specs.Objects.{IsChangedAt, first_layout_of, objects_of}
use Rattle.node_keeper.specs.declared.objects.Objects.{Objects}

-- what is told of an object is told of the object of the name under which it is in the map
pub told_there : {T E : Type 0} (result : Result (T × Bool) E) (objects : Objects) (name : List ℕ) (local : LocalObject) →
    get (pointwise nat_eq) objects.by_name name ≡ Some local →
    IfOk result (λ it. (number : ℕ) (delta : Option ℕ) (first : Layout) → local ≡ new_local number delta first → it.1 ≡ true) →
    IfOk result (λ it. IsToldIfNew objects name it.1)
told_there (Ok it) objects name local there told = λ other is same.
    told objects.number objects.delta (first_layout_of objects name) (same_Some local other (sym there ∙ is) ∙ same)
told_there (Err e) objects name local there told = told

-- what came of a reply at an object came of it at the object of the name
pub reply_at : (old new : Objects) (name : List ℕ) (letter : Letter) (before local : LocalObject) (letters : List Letter)
    (ended : List Ended) → before ≡ objects_of old name → IsChangedAt old name local new → IsSomeOutcome before local letters ended →
    IsReplyOutcome (is_taken before letter) before letter local letters ended → IsReplyOutcomeAt old name letter new letters ended
reply_at old new name letter before local letters ended is changed done taken = record {
  local = local;
  done = subst (λ (o : LocalObject). IsSomeOutcome o local letters ended) is done;
  taken = subst (λ (o : LocalObject). IsReplyOutcome (is_taken o letter) o letter local letters ended) is taken;
  changed = changed;
}

-- two facts of what a call returns
pub if_ok_two : {T E : Type 0} {P Q R : T → Type 0} (result : Result T E) → IfOk result P → IfOk result Q →
    ((x : T) → P x → Q x → R x) → IfOk result R
if_ok_two (Ok x) p q f = f x p q
if_ok_two (Err e) p q f = p
