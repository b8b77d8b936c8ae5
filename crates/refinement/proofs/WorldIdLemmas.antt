-- The ids of the calls of a world, as it goes on: no two calls of its history have the same one.
use Rattle.std.proofs.Common.{◌≡◌, ◌⊎◌, ℕ, suc, Bool, true, false, cond, List, [], ◌∷◌, ◌++◌, map, Option, None, Some, eqb, not}
use Rattle.std.proofs.Common.{inl, inr, refl, sym, subst, ap, ◌∙◌, slice_get, zero, ◌&&◌}
use Rattle.std.proofs.lemmas.List.{map-append}
use Rattle.std.proofs.lemmas.Option.{same_Some}
use Rattle.std.specs.List.{AllByRecursion}
use Rattle.bank.specs.declared.kind.Kind.{Kind}
use Rattle.mail.specs.declared.message.Body.{Body}
use Rattle.mail.specs.declared.message.Body.TheVariants as body
use Rattle.mail.specs.declared.message.Message.{Message}
use Rattle.record.specs.declared.call.Entry.{Entry}
use Rattle.record.specs.Fragments.{Code}
use Rattle.record.specs.Journals.{entry_value}
use Rattle.record.specs.Legal.{is_move}
use Rattle.soundness.proofs.ListLemmas.{all_push}
use Rattle.open_calls.specs.OpenCalls.{NodeCall, due_phase, open_call, taking_open, with_open}
use Rattle.open_calls.proofs.ListLemmas.{all_append}
use Rattle.open_calls.proofs.OpenCallLemmas.{all_filter, all_with, found}
use Rattle.network.specs.Worlds.{World}
use Rattle.network.specs.Events.{Event, advanced_world, answered_entry, answered_world, happens, on_open, served_world, world_after}
use Rattle.network.specs.Premises.{IsPremised, IsUnused, MayHappenInTurn}

-- Histories

-- the ids of the calls of a history
abbrev pub ids_of : List Entry → List ℕ
ids_of history = map (λ (entry : Entry). entry.call) history

-- none of these ids is another one's
abbrev pub IdsDiffer : List ℕ → Type 0
IdsDiffer [] = Unit {0}
IdsDiffer (id ∷ ids) = AllByRecursion (λ other. other ≡ id → ⊥) ids × IdsDiffer ids

-- no entry has this id
abbrev pub HasNot : (id : ℕ) → List Entry → Type 0
HasNot id history = AllByRecursion (λ entry. entry.call ≡ id → ⊥) history

pub to_ids : (id : ℕ) (history : List Entry) → HasNot id history → AllByRecursion (λ other. other ≡ id → ⊥) (ids_of history)
to_ids id [] all = tt
to_ids id (entry ∷ history) all = (all.0, to_ids id history all.1)

pub from_ids : (id : ℕ) (history : List Entry) → AllByRecursion (λ other. other ≡ id → ⊥) (ids_of history) → HasNot id history
from_ids id [] all = tt
from_ids id (entry ∷ history) all = (all.0, from_ids id history all.1)

-- changes that keep the ids of entries
pub same_ids : (change : Entry → Entry) → ((entry : Entry) → (change entry).call ≡ entry.call) → (history : List Entry) →
    ids_of (map change history) ≡ ids_of history
same_ids change same [] = refl
same_ids change same (entry ∷ history) =
    ap (λ id. id ∷ ids_of (map change history)) (same entry) ∙ ap (λ ids. entry.call ∷ ids) (same_ids change same history)

pub answered_id : (call : NodeCall) (now : ℕ) (entry : Entry) → (answered_entry call now entry).call ≡ entry.call
answered_id call now entry = go (eqb entry.call call.id)
  where
    answered : Entry
    answered = record entry { answered = Some now; value = entry_value call.kind (Some now) call.settled }

    go : (b : Bool) → (cond b answered entry).call ≡ entry.call
    go true = refl
    go false = refl

differ_push : (ids : List ℕ) (id : ℕ) → AllByRecursion (λ other. other ≡ id → ⊥) ids → IdsDiffer ids → IdsDiffer (ids ++ id ∷ [])
differ_push [] id unused differ = (tt, tt)
differ_push (first ∷ ids) id unused differ = (
  all_append (λ other. other ≡ first → ⊥) ids (id ∷ []) differ.0 (λ same. unused.0 (sym same), tt),
  differ_push ids id unused.1 differ.1,
)

-- the entry at a place is the only one with its id
pub only_entry : (history : List Entry) (place : ℕ) (entry : Entry) → IdsDiffer (ids_of history) →
    slice_get history place ≡ Some entry → AllByRecursion (λ other. other.call ≡ entry.call → other ≡ entry) history
only_entry [] place entry differ at = absurd (cc)
only_entry (first ∷ history) zero entry differ at =
    let same = same_Some first entry at in (
      λ e. same,
      none_else history (from_ids first.call history differ.0),
    )
  where
    none_else : (rest : List Entry) → HasNot first.call rest → AllByRecursion (λ other. other.call ≡ entry.call → other ≡ entry) rest
    none_else [] none = tt
    none_else (other ∷ rest) none = (
      λ e. absurd (none.0 (e ∙ ap (λ (x : Entry). x.call) (sym (same_Some first entry at)))),
      none_else rest none.1,
    )
only_entry (first ∷ history) (suc place) entry differ at = (
  λ e. absurd (not_there history place (from_ids first.call history differ.0) at (sym e)),
  only_entry history place entry differ.1 at,
)
  where
    not_there : (rest : List Entry) (i : ℕ) → HasNot first.call rest → slice_get rest i ≡ Some entry → entry.call ≡ first.call → ⊥
    not_there [] i none e same = absurd (cc)
    not_there (other ∷ rest) zero none e same = none.0 (ap (λ (x : Entry). x.call) (same_Some other entry e) ∙ same)
    not_there (other ∷ rest) (suc i) none e same = not_there rest i none.1 e same

-- One event

-- the history has the ids from before, or one more, which was unused
abbrev pub GrowsIds : World → List Entry → Type 0
GrowsIds world history =
    (ids_of history ≡ ids_of world.history)
    ⊎ ((id : ℕ) × IsUnused world id × (ids_of history ≡ ids_of world.history ++ id ∷ []))

-- the world with one more event counted
abbrev ticked : World → World
ticked world = record world { now = suc world.now }

begun_ids : (world : World) (entry : Entry) → IsUnused world entry.call → GrowsIds world (world.history ++ entry ∷ [])
begun_ids world entry unused =
    inr (entry.call, unused, map-append (λ (e : Entry). e.call) world.history (entry ∷ []))

open_ids : (world base : World) (o : Option NodeCall) (change : NodeCall → World) → base.history ≡ world.history →
    ((call : NodeCall) → ids_of (change call).history ≡ ids_of world.history) → GrowsIds world (on_open base o change).history
open_ids world base None change same each = inl (ap ids_of same)
open_ids world base (Some call) change same each = inl (each call)

advanced_ids : (fragment : Code) (world : World) (call : NodeCall) (o : Option (Kind × ℕ)) →
    (advanced_world fragment world call o).history ≡ world.history
advanced_ids fragment world call None = refl
advanced_ids fragment world call (Some next) = refl

served_ids : (world : World) (message : Message) (b : Body) → (served_world world message b).history ≡ world.history
served_ids world message (body.Request asked) = refl
served_ids world message (body.Reply kind made) = refl

grows_ids : (fragment : Code) (world : World) (event : Event) → IsPremised world event →
    GrowsIds world (happens fragment world event).history
grows_ids fragment world (Event.BeginRead node id) is = begun_ids world _ is.ids
grows_ids fragment world (Event.BeginWrite node id value) is = begun_ids world _ is.ids
grows_ids fragment world (Event.BeginMove node id layout) is = begun_ids world _ is.ids
grows_ids fragment world (Event.Advance id) is =
    open_ids world (ticked world) (open_call world.calls id)
    (λ call. advanced_world fragment (ticked world) call (due_phase call)) refl
    (λ call. ap ids_of (advanced_ids fragment (ticked world) call (due_phase call)))
grows_ids fragment world (Event.Serve message) is = inl (ap ids_of (served_ids (ticked world) message message.body))
grows_ids fragment world (Event.Take message) is =
    open_ids world (ticked world) (open_call world.calls message.call)
    (λ call. record (ticked world) { calls = with_open (taking_open message call) world.calls }) refl (λ call. refl)
grows_ids fragment world (Event.Settle id value) is =
    open_ids world (ticked world) (open_call world.calls id)
    (λ call. record (ticked world) { calls = with_open (record call { settled = Some value }) world.calls }) refl (λ call. refl)
grows_ids fragment world (Event.Answer id) is =
    open_ids world (ticked world) (open_call world.calls id) (λ call. answered_world (ticked world) call) refl
    (λ call. same_ids (answered_entry call (suc world.now)) (answered_id call (suc world.now)) world.history)
grows_ids fragment world (Event.GiveUp id) is = inl refl
grows_ids fragment world (Event.Restart node banks calls) is = inl refl

differ_next : (fragment : Code) (world : World) (event : Event) → IsPremised world event → IdsDiffer (ids_of world.history) →
    IdsDiffer (ids_of (happens fragment world event).history)
differ_next fragment world event is differ = go (grows_ids fragment world event is)
  where
    go : GrowsIds world (happens fragment world event).history → IdsDiffer (ids_of (happens fragment world event).history)
    go (inl same) = subst IdsDiffer (sym same) differ
    go (inr new) =
        subst IdsDiffer (sym new.2) (differ_push (ids_of world.history) new.0 (to_ids new.0 world.history new.1) differ)

before_push : (ids : List ℕ) (id new : ℕ) → AllByRecursion (λ other. other ≡ id → ⊥) (ids ++ new ∷ []) →
    AllByRecursion (λ other. other ≡ id → ⊥) ids
before_push [] id new all = tt
before_push (first ∷ ids) id new all = (all.0, before_push ids id new all.1)

-- an id that is unused then was unused before
unused_before : (fragment : Code) (world : World) (event : Event) (id : ℕ) → IsPremised world event →
    IsUnused (happens fragment world event) id → IsUnused world id
unused_before fragment world event id is unused = go (grows_ids fragment world event is)
  where
    then : AllByRecursion (λ other. other ≡ id → ⊥) (ids_of (happens fragment world event).history)
    then = to_ids id (happens fragment world event).history unused

    go : GrowsIds world (happens fragment world event).history → IsUnused world id
    go (inl same) = from_ids id world.history (subst (AllByRecursion (λ other. other ≡ id → ⊥)) same then)
    go (inr new) =
        from_ids id world.history (before_push (ids_of world.history) id new.0
        (subst (AllByRecursion (λ other. other ≡ id → ⊥)) new.2 then))

-- Open calls

-- what is so of the ids of all open calls, and of each id that is unused
module _ (P : ℕ → Type 0) where
  -- this is so of the ids of these calls
  abbrev pub AllIds : List NodeCall → Type 0
  AllIds calls = AllByRecursion (λ (call : NodeCall). P call.id) calls

  changed_call : (calls : List NodeCall) (id : ℕ) (call new : NodeCall) → AllIds calls → open_call calls id ≡ Some call →
      new.id ≡ call.id → AllIds (with_open new calls)
  changed_call calls id call new all there same =
      all_with (λ (c : NodeCall). P c.id) (λ (c : NodeCall). P c.id) new calls all
      (subst P (sym same) (found (λ (c : NodeCall). P c.id) calls id call all there).0) (λ other apart it. it)

  open_calls : (world : World) (o : Option NodeCall) (change : NodeCall → World) → AllIds world.calls →
      ((call : NodeCall) → o ≡ Some call → AllIds (change call).calls) → AllIds (on_open world o change).calls
  open_calls world None change all each = all
  open_calls world (Some call) change all each = each call refl

  advanced_calls : (fragment : Code) (world : World) (id : ℕ) (call : NodeCall) (o : Option (Kind × ℕ)) → AllIds world.calls →
      open_call world.calls id ≡ Some call → AllIds (advanced_world fragment world call o).calls
  advanced_calls fragment world id call None all there = all
  advanced_calls fragment world id call (Some next) all there = changed_call world.calls id call _ all there refl

  served_calls : (world : World) (message : Message) (b : Body) → AllIds world.calls → AllIds (served_world world message b).calls
  served_calls world message (body.Request asked) all = all
  served_calls world message (body.Reply kind made) all = all

  next_calls : (fragment : Code) (world : World) (event : Event) → IsPremised world event →
      ((id : ℕ) → IsUnused world id → P id) → AllIds world.calls → AllIds (happens fragment world event).calls
  next_calls fragment world (Event.BeginRead node id) is new all = all_push (λ (c : NodeCall). P c.id) world.calls _ all (new id is.ids)
  next_calls fragment world (Event.BeginWrite node id value) is new all =
      all_push (λ (c : NodeCall). P c.id) world.calls _ all (new id is.ids)
  next_calls fragment world (Event.BeginMove node id layout) is new all =
      all_push (λ (c : NodeCall). P c.id) world.calls _ all (new id is.ids)
  next_calls fragment world (Event.Advance id) is new all =
      open_calls (ticked world) (open_call world.calls id)
      (λ call. advanced_world fragment (ticked world) call (due_phase call)) all
      (λ call there. advanced_calls fragment (ticked world) id call (due_phase call) all there)
  next_calls fragment world (Event.Serve message) is new all = served_calls (ticked world) message message.body all
  next_calls fragment world (Event.Take message) is new all =
      open_calls (ticked world) (open_call world.calls message.call)
      (λ call. record (ticked world) { calls = with_open (taking_open message call) world.calls }) all
      (λ call there. changed_call world.calls message.call call (taking_open message call) all there refl)
  next_calls fragment world (Event.Settle id value) is new all =
      open_calls (ticked world) (open_call world.calls id)
      (λ call. record (ticked world) { calls = with_open (record call { settled = Some value }) world.calls }) all
      (λ call there. changed_call world.calls id call (record call { settled = Some value }) all there refl)
  next_calls fragment world (Event.Answer id) is new all =
      open_calls (ticked world) (open_call world.calls id) (λ call. answered_world (ticked world) call) all
      (λ call there. all_filter (λ (c : NodeCall). P c.id) (λ c. not (eqb c.id call.id)) world.calls all)
  next_calls fragment world (Event.GiveUp id) is new all =
      all_filter (λ (c : NodeCall). P c.id) (λ c. not (eqb c.id id)) world.calls all
  next_calls fragment world (Event.Restart node banks calls) is new all =
      subst AllIds (sym is.log.1)
      (all_filter (λ (c : NodeCall). P c.id) (λ c. not (eqb c.node node && not (is_move c.kind))) world.calls all)

-- Several events

pub differ_later : (fragment : Code) (events : List Event) (world : World) → MayHappenInTurn fragment events world →
    IdsDiffer (ids_of world.history) → IdsDiffer (ids_of (world_after fragment events world).history)
differ_later fragment [] world may differ = differ
differ_later fragment (event ∷ events) world may differ =
    differ_later fragment events (happens fragment world event) may.2 (differ_next fragment world event may.1 differ)

-- what is so of the ids of open calls and of each unused id stays so
pub ids_later : (P : ℕ → Type 0) (fragment : Code) (events : List Event) (world : World) → MayHappenInTurn fragment events world →
    AllByRecursion (λ (call : NodeCall). P call.id) world.calls → ((id : ℕ) → IsUnused world id → P id) →
    AllByRecursion (λ (call : NodeCall). P call.id) (world_after fragment events world).calls
    × ((id : ℕ) → IsUnused (world_after fragment events world) id → P id)
ids_later P fragment [] world may all new = (all, new)
ids_later P fragment (event ∷ events) world may all new =
    ids_later P fragment events (happens fragment world event) may.2 (next_calls P fragment world event may.1 new all)
    (λ id unused. new id (unused_before fragment world event id may.1 unused))
