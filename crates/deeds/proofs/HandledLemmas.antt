-- How what a node does is put together.
use Rattle.std.proofs.Common.{◌≡◌, ℕ, List, [], ◌∷◌, ◌++◌, refl, sym, subst, ap, ◌∙◌}
use Rattle.std.proofs.lemmas.List.{append-nil}
use Rattle.std.specs.List.{AllByRecursion}
use Rattle.encoder.specs.Fragment.{fragment}
use Rattle.record.specs.Fragments.{Code}
use Rattle.letter.specs.declared.letter.Letter.{Letter}
use Rattle.local_object.specs.Doing.{IsOutcome}
use Rattle.local_object.specs.Local.{LocalObject}
use Rattle.local_object.specs.Events.{LocalEvent}
use Rattle.deeds.specs.Named.{NamedLetter, with_names, with_named}
use Rattle.deeds.specs.Kept.{KeptNode}
use Rattle.deeds.specs.Deeds.{Deed, Notice, after_deeds, all_noticed}
use Rattle.deeds.specs.May.{AreDeedLettersKnown, IsAllowed, IsEventAllowed, IsEventLetterKnown, MayAllBeDone}
use Rattle.deeds.specs.Ids.{HaveNextIds}
use Rattle.deeds.specs.Handled.{IsHandled}
use Rattle.deeds.specs.Laws.{EventsAreHandled, MoreMayCome, NothingIsHandled, ResentIsHandled, TwoAreOne}
use Rattle.deeds.proofs.DeedListLemmas.{deeds_append, notices_append, objects_append, sent_append}
use Rattle.deeds.proofs.KnownLetterLemmas.{fed_append, fed_more}
use Rattle.deeds.proofs.IdLemmas.{ids_append, ids_node}
use Rattle.open_calls.proofs.ListLemmas.{all_append}
use Rattle.deeds.proofs.OneNameLemmas.{allowed_at, at_name, fed_at, may_at, notices_at, objects_at, sent_at}

-- objects that are the same name by name are the same
pub same_objects : (f g : List ℕ → LocalObject) → ((name : List ℕ) → f name ≡ g name) → f ≡ g
same_objects f g same = λ i name. same name i

pub nothing_handled : NothingIsHandled
nothing_handled code node got ids later = record {
  deeds = [];
  may = tt;
  fed = tt;
  allowed = tt;
  ids = later;
  file = refl;
  objects = λ name. refl;
  letters = refl;
  seen = refl;
}

pub both_handled : TwoAreOne
both_handled code old got middle first seen new second more a b =
    let done = after_deeds code old.objects a.deeds in
    let same : middle.objects ≡ done.objects = same_objects middle.objects done.objects a.objects in
    let may : MayAllBeDone code done.objects b.deeds = subst (λ objects. MayAllBeDone code objects b.deeds) same b.may in
    let fed : AreDeedLettersKnown code done.objects (got ++ done.sent) b.deeds =
    subst (λ sent. AreDeedLettersKnown code done.objects (got ++ sent) b.deeds) a.letters
    (subst (λ objects. AreDeedLettersKnown code objects (got ++ first) b.deeds) same b.fed) in
    let allowed : AllByRecursion (IsAllowed old.ids.node old.file.mover) b.deeds =
    subst (λ mover. AllByRecursion (IsAllowed old.ids.node mover) b.deeds) (ap (λ file. file.mover) a.file)
    (subst (λ number. AllByRecursion (IsAllowed number middle.file.mover) b.deeds) (ids_node old.ids middle.ids a.deeds a.ids)
    b.allowed) in record {
      deeds = a.deeds ++ b.deeds;
      may = deeds_append code old.objects a.deeds b.deeds a.may may;
      fed = fed_append code old.objects got a.deeds b.deeds a.fed fed;
      allowed = all_append (IsAllowed old.ids.node old.file.mover) a.deeds b.deeds a.allowed allowed;
      ids = ids_append old.ids middle.ids new.ids a.deeds b.deeds a.ids b.ids;
      file = b.file ∙ a.file;
      objects = λ name. b.objects name ∙ ap (λ objects. (after_deeds code objects b.deeds).objects name) same
          ∙ ap (λ (objects : List ℕ → LocalObject). objects name) (sym (objects_append code old.objects a.deeds b.deeds));
      letters = ap (λ xs. xs ++ second) a.letters
          ∙ ap (λ xs. done.sent ++ xs) (b.letters ∙ ap (λ objects. (after_deeds code objects b.deeds).sent) same)
          ∙ sym (sent_append code old.objects a.deeds b.deeds);
      seen = ap (λ xs. xs ++ more) a.seen
          ∙ ap (λ xs. done.notices ++ xs) (b.seen ∙ ap (λ objects. (after_deeds code objects b.deeds).notices) same)
          ∙ sym (notices_append code old.objects a.deeds b.deeds);
    }

pub more_handled : MoreMayCome
more_handled code old got more new sent notices among is = record {
  deeds = is.deeds;
  may = is.may;
  fed = fed_more code old.objects got more is.deeds among is.fed;
  allowed = is.allowed;
  ids = is.ids;
  file = is.file;
  objects = is.objects;
  letters = is.letters;
  seen = is.seen;
}

pub events_handled : EventsAreHandled
events_handled code node got name events ids may fed allowed given = record {
  deeds = at_name name events;
  may = may_at code name node.objects events may;
  fed = fed_at code name node.objects got events fed;
  allowed = allowed_at name node.ids.node node.file.mover events allowed;
  ids = given;
  file = refl;
  objects = λ other. sym (objects_at code name node.objects events other);
  letters = sym (sent_at code name node.objects events);
  seen = sym (notices_at code name node.objects events);
}

pub resent_handled : ResentIsHandled
resent_handled code node got name letters later resent = record {
  deeds = Deed.Resends name letters ∷ [];
  may = (resent, tt);
  fed = (tt, tt);
  allowed = (tt, tt);
  ids = (node.ids, refl, later);
  file = refl;
  objects = λ other. refl;
  letters = sym (append-nil (with_names name letters));
  seen = refl;
}

-- what the node keeps, sends and shows afterwards may be given in other words
pub handled_as : (code : Code) (old : KeptNode) (got : List NamedLetter) (new same : KeptNode)
    (sent also : List NamedLetter) (notices too : List Notice) → IsHandled code old got new sent notices →
    same.file ≡ new.file → same.ids ≡ new.ids → ((name : List ℕ) → same.objects name ≡ new.objects name) →
    also ≡ sent → too ≡ notices → IsHandled code old got same also too
handled_as code old got new same sent also notices too is file ids objects letters seen = record {
  deeds = is.deeds;
  may = is.may;
  fed = is.fed;
  allowed = is.allowed;
  ids = subst (λ i. HaveNextIds old.ids is.deeds i) (sym ids) is.ids;
  file = file ∙ is.file;
  objects = λ name. objects name ∙ is.objects name;
  letters = letters ∙ is.letters;
  seen = seen ∙ is.seen;
}

-- what a method of the object of a name does
pub done_handled : (node : KeptNode) (got : List NamedLetter) (name : List ℕ) (events : List LocalEvent)
    (local : LocalObject) (sent : List Letter) (new : KeptNode) → IsOutcome (node.objects name) events local sent →
    AllByRecursion (IsEventLetterKnown got name) events →
    AllByRecursion (IsEventAllowed node.ids.node node.file.mover) events →
    HaveNextIds node.ids (at_name name events) new.ids → new.file ≡ node.file →
    ((other : List ℕ) → new.objects other ≡ with_named node.objects name local other) →
    IsHandled fragment node got new (with_names name sent) (all_noticed fragment name (node.objects name) events)
done_handled node got name events local sent new done fed allowed given file objects = record {
  deeds = at_name name events;
  may = may_at fragment name node.objects events done.may;
  fed = fed_at fragment name node.objects got events fed;
  allowed = allowed_at name node.ids.node node.file.mover events allowed;
  ids = given;
  file = file;
  objects = λ other. objects other ∙ ap (λ l. with_named node.objects name l other) done.local
      ∙ sym (objects_at fragment name node.objects events other);
  letters = ap (with_names name) done.letters ∙ sym (sent_at fragment name node.objects events);
  seen = sym (notices_at fragment name node.objects events);
}
