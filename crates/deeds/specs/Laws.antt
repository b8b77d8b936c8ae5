-- The contracts that docs/trusted.md lists do not depend on this file; other contracts and proofs do.
-- The laws: how the contract of a node's function is put together.
use Rattle.std.specs.Prelude.{ℕ, List, [], ◌++◌, map}
use Rattle.std.specs.List.{AllByRecursion}
use Rattle.record.specs.Fragments.{Code}
use Rattle.deeds.specs.CallId.{CallIds}
use Rattle.letter.specs.declared.letter.Letter.{Letter}
use Rattle.local_object.specs.Events.{LocalEvent, all_done}
use Rattle.local_object.specs.May.{MayAllHappen}
use Rattle.local_object.specs.Resent.{IsResent}
use Rattle.deeds.specs.Named.{NamedLetter, IsOneOf, with_names, with_named}
use Rattle.deeds.specs.Kept.{KeptNode}
use Rattle.deeds.specs.Deeds.{Deed, Notice, all_noticed}
use Rattle.deeds.specs.May.{IsEventAllowed, IsEventLetterKnown}
use Rattle.deeds.specs.Ids.{HaveNextIds, IsLater}
use Rattle.deeds.specs.Handled.{IsHandled}

-- a node that does nothing but use up ids, or begin an epoch, has handled what came
abbrev pub NothingIsHandled : Type 0
NothingIsHandled = (fragment : Code) (node : KeptNode) (got : List NamedLetter) (ids : CallIds) → IsLater node.ids ids →
    IsHandled fragment node got (record node { ids = ids }) [] []

-- what a node handles in two steps it has handled in one: in the second step it may also use the letters that it sent
-- in the first
abbrev pub TwoAreOne : Type 0
TwoAreOne = (fragment : Code) (old : KeptNode) (got : List NamedLetter) (middle : KeptNode) (first : List NamedLetter)
    (seen : List Notice) (new : KeptNode) (second : List NamedLetter) (more : List Notice) →
    IsHandled fragment old got middle first seen → IsHandled fragment middle (got ++ first) new second more →
    IsHandled fragment old got new (first ++ second) (seen ++ more)

-- a node that has handled some letters has also handled any list that has these among others
abbrev pub MoreMayCome : Type 0
MoreMayCome = (fragment : Code) (old : KeptNode) (got more : List NamedLetter) (new : KeptNode)
    (sent : List NamedLetter) (notices : List Notice) →
    ((letter : NamedLetter) → IsOneOf got letter → IsOneOf more letter) →
    IsHandled fragment old got new sent notices → IsHandled fragment old more new sent notices

-- what a node does with the object of one name
abbrev pub EventsAreHandled : Type 0
EventsAreHandled = (fragment : Code) (node : KeptNode) (got : List NamedLetter) (name : List ℕ)
    (events : List LocalEvent) (ids : CallIds) → MayAllHappen fragment (node.objects name) events →
    AllByRecursion (IsEventLetterKnown got name) events →
    AllByRecursion (IsEventAllowed node.ids.node node.file.mover) events →
    HaveNextIds node.ids (map (Deed.Does name) events) ids →
    IsHandled fragment node got
    (record node {
      objects = with_named node.objects name (all_done fragment (node.objects name) events).local;
      ids = ids;
    })
    (with_names name (all_done fragment (node.objects name) events).sent)
    (all_noticed fragment name (node.objects name) events)

-- a node sends letters of the object of one name again
abbrev pub ResentIsHandled : Type 0
ResentIsHandled = (fragment : Code) (node : KeptNode) (got : List NamedLetter) (name : List ℕ) (letters : List Letter) →
    IsLater node.ids node.ids → AllByRecursion (IsResent fragment (node.objects name)) letters →
    IsHandled fragment node got node (with_names name letters) []
