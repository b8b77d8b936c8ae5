-- Which ids a node gives to the calls that it begins.
use Rattle.std.specs.Prelude.{◌≡◌, ◌⊎◌, ◌<◌, ◌≤◌, ℕ, List, [], ◌∷◌, Option, None, Some}
use Rattle.deeds.specs.CallId.{CallIds, HasRanges, after_given, next_given_id}
use Rattle.local_object.specs.Events.{LocalEvent}
use Rattle.deeds.specs.Deeds.{Deed}

-- the source of ids at a later time: it has the same node, and a greater epoch, or in the same epoch it gave as many
-- ids or more
pub record IsLater (before after : CallIds) : Type 0 where
  pub node : after.node ≡ before.node
  pub within : HasRanges after
  pub order : (before.epoch < after.epoch) ⊎ ((before.epoch ≡ after.epoch) × (before.given ≤ after.given))

-- the id of the call that an event begins, if it begins one
abbrev pub begun_id : LocalEvent → Option ℕ
begun_id (LocalEvent.BeginRead id) = Some id
begun_id (LocalEvent.BeginWrite id value) = Some id
begun_id (LocalEvent.BeginMove id layout) = Some id
begun_id event = None

-- the id of the call that a deed begins, if it begins one
abbrev pub deed_id : Deed → Option ℕ
deed_id (Deed.Does name event) = begun_id event
deed_id (Deed.Resends name letters) = None

-- this id was given at some time between `before` and `after`
pub record IsNextId (before : CallIds) (id : ℕ) (after : CallIds) : Type 0 where
  pub now : CallIds
  pub reached : IsLater before now
  pub next : next_given_id now ≡ Some id
  pub left : after_given now ≡ after

-- between `before` and `after` the id was given, if there is one
abbrev pub IsGiven : (before : CallIds) → Option ℕ → (after : CallIds) → Type 0
IsGiven before None after = before ≡ after
IsGiven before (Some id) after = IsNextId before id after

-- the calls that these deeds begin got ids that were given between `before` and `after`, in this order
abbrev pub HaveNextIds : (before : CallIds) → List Deed → (after : CallIds) → Type 0
HaveNextIds before [] after = IsLater before after
HaveNextIds before (deed ∷ deeds) after =
    (now : CallIds) × IsGiven before (deed_id deed) now × HaveNextIds now deeds after
