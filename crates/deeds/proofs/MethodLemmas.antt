-- What the methods of the object of a name do, as what the node handled.
use Rattle.std.proofs.Common.{◌≡◌, ℕ, Bool, true, false, cond, List, [], ◌∷◌, ◌++◌, map, None, Some, refl, sym, ap, ◌∙◌}
use Rattle.std.proofs.lemmas.List.{append-nil, map-append}
use Rattle.std.specs.List.{AllByRecursion}
use Rattle.encoder.specs.Fragment.{fragment}
use Rattle.record.specs.Fragments.{Code}
use Rattle.letter.specs.declared.letter.Letter.{Letter}
use Rattle.local_object.specs.Doing.{IsOutcome}
use Rattle.local_object.specs.Ended.{all_told, told}
use Rattle.local_object.specs.Local.{LocalObject}
use Rattle.local_object.specs.Events.{LocalEvent, done_here}
use Rattle.deeds.specs.Named.{NamedLetter, with_names, with_named}
use Rattle.deeds.specs.Kept.{KeptNode}
use Rattle.deeds.specs.Deeds.{Notice, all_noticed, noticed}
use Rattle.deeds.specs.Handled.{IsHandled}
use Rattle.deeds.specs.Ids.{IsLater, IsNextId, begun_id}
use Rattle.deeds.specs.May.{IsEventAllowed, IsEventLetterKnown}
use Rattle.deeds.proofs.HandledLemmas.{done_handled, handled_as}
use Rattle.deeds.proofs.IdLemmas.{no_ids, one_id}
use Rattle.open_calls.proofs.ListLemmas.{all_weaker}

-- a fact of one event, where there may be one
pub if_all : (P : LocalEvent → Type 0) (event : LocalEvent) (b : Bool) → P event → AllByRecursion P (cond b (event ∷ []) [])
if_all P event true is = (is, tt)
if_all P event false is = tt

-- Events that begin no call

-- the event begins no call
abbrev pub BeginsNone : LocalEvent → Type 0
BeginsNone event = begun_id event ≡ None

none_allowed : (number mover : ℕ) (event : LocalEvent) → BeginsNone event → IsEventAllowed number mover event
none_allowed number mover (LocalEvent.BeginMove id layout) none = absurd (cc)
none_allowed number mover _ none = tt

none_noticed : (name : List ℕ) (local : LocalObject) (event : LocalEvent) → BeginsNone event →
    noticed name local event ≡ map (Notice.Tells name) (told local event)
none_noticed name local (LocalEvent.BeginRead id) none = absurd (cc)
none_noticed name local (LocalEvent.BeginWrite id value) none = absurd (cc)
none_noticed name local (LocalEvent.BeginMove id layout) none = absurd (cc)
none_noticed name local _ none = refl

-- clients see only answers
pub answers_noticed : (code : Code) (name : List ℕ) (local : LocalObject) (events : List LocalEvent) →
    AllByRecursion BeginsNone events → all_noticed code name local events ≡ map (Notice.Tells name) (all_told code local events)
answers_noticed code name local [] none = refl
answers_noticed code name local (event ∷ events) none =
    let next = (done_here code local event).local in
    ap (λ xs. xs ++ all_noticed code name next events) (none_noticed name local event none.0)
    ∙ ap (λ xs. map (Notice.Tells name) (told local event) ++ xs) (answers_noticed code name next events none.1)
    ∙ sym (map-append (Notice.Tells name) (told local event) (all_told code next events))

-- a method that begins no call, as serving, taking and giving up
pub quiet_handled : (node : KeptNode) (got : List NamedLetter) (name : List ℕ) (events : List LocalEvent)
    (local : LocalObject) (sent : List Letter) (new : KeptNode) → IsOutcome (node.objects name) events local sent →
    AllByRecursion (IsEventLetterKnown got name) events → AllByRecursion BeginsNone events → IsLater node.ids new.ids →
    new.file ≡ node.file → ((other : List ℕ) → new.objects other ≡ with_named node.objects name local other) →
    IsHandled fragment node got new (with_names name sent) (map (Notice.Tells name) (all_told fragment (node.objects name) events))
quiet_handled node got name events local sent new done fed none later file objects =
    handled_as fragment node got new new (with_names name sent) (with_names name sent)
    (all_noticed fragment name (node.objects name) events)
    (map (Notice.Tells name) (all_told fragment (node.objects name) events))
    (done_handled node got name events local sent new done fed
    (all_weaker BeginsNone (IsEventAllowed node.ids.node node.file.mover) (none_allowed node.ids.node node.file.mover) events none)
    (no_ids name events node.ids new.ids none later) file objects) refl refl (λ other. refl) refl
    (sym (answers_noticed fragment name (node.objects name) events none))

-- A call that begins

begun_fed : (got : List NamedLetter) (name : List ℕ) (event : LocalEvent) (id : ℕ) → begun_id event ≡ Some id →
    IsEventLetterKnown got name event
begun_fed got name (LocalEvent.Serve letter) id begins = absurd (cc)
begun_fed got name (LocalEvent.Take letter) id begins = absurd (cc)
begun_fed got name (LocalEvent.Hear letter) id begins = absurd (cc)
begun_fed got name (LocalEvent.Redirect letter) id begins = absurd (cc)
begun_fed got name _ id begins = tt

-- a method that begins a call
pub begun_handled : (node : KeptNode) (got : List NamedLetter) (name : List ℕ) (event : LocalEvent) (id : ℕ)
    (local : LocalObject) (sent : List Letter) (new : KeptNode) → IsOutcome (node.objects name) (event ∷ []) local sent →
    begun_id event ≡ Some id → IsEventAllowed node.ids.node node.file.mover event → IsNextId node.ids id new.ids →
    new.file ≡ node.file → ((other : List ℕ) → new.objects other ≡ with_named node.objects name local other) →
    IsHandled fragment node got new (with_names name sent) (noticed name (node.objects name) event)
begun_handled node got name event id local sent new done begins allowed next file objects =
    handled_as fragment node got new new (with_names name sent) (with_names name sent)
    (all_noticed fragment name (node.objects name) (event ∷ [])) (noticed name (node.objects name) event)
    (done_handled node got name (event ∷ []) local sent new done (begun_fed got name event id begins, tt) (allowed, tt)
    (one_id name event id node.ids new.ids begins next) file objects) refl refl (λ other. refl) refl
    (sym (append-nil (noticed name (node.objects name) event)))
