-- The ids of the calls that a node begins as it handles a frame.
use Rattle.std.proofs.Common.{◌≡◌, ◌⊎◌, inl, inr, ◌+◌, ℕ, zero, suc, Bool, true, false, cond, List, [], ◌∷◌, ◌++◌}
use Rattle.std.proofs.Common.{length, map, Option, None, Some, slice_get, refl, sym, subst, ap, ◌∙◌, arith}
use Rattle.std.proofs.lemmas.Option.{same_Some}
use Rattle.std.specs.List.{filter}
use Rattle.record.specs.Fragments.{Code}
use Rattle.local_object.specs.declared.progress.Ended.{Ended}
use Rattle.local_object.specs.Events.{LocalEvent}
use Rattle.local_object.specs.Local.{LocalObject}
use Rattle.local_object.specs.Ended.{told}
use Rattle.deeds.specs.CallId.{CallIds}
use Rattle.deeds.specs.Deeds.{Deed, Notice, after_deed, after_deeds, noticed}
use Rattle.deeds.specs.Ids.{HaveNextIds, IsGiven, IsLater, IsNextId, begun_id, deed_id}
use Rattle.deeds.proofs.IdLemmas.{later_then, next_later}
use Rattle.deeds.proofs.UsedIdLemmas.{next_unused, used_now}
use Rattle.refinement.proofs.PlaceLemmas.{get_split}
use Rattle.processes.specs.Events.{call_begun, is_begun}

-- a call began with this id, by this place of the notices
abbrev pub BeginsAt : List Notice → (place id : ℕ) → Type 0
BeginsAt notices place id = (notice : Notice) × (slice_get notices place ≡ Some notice) × (call_begun notice ≡ Some id)

-- the id was given at some time between these two
abbrev pub IsGivenBetween : (before : CallIds) → (id : ℕ) → (after : CallIds) → Type 0
IsGivenBetween before id after = (now : CallIds) × IsNextId before id now × IsLater now after

-- no two calls began with the same id
abbrev pub BeginApart : List Notice → Type 0
BeginApart notices = (one other id : ℕ) → BeginsAt notices one id → BeginsAt notices other id → one ≡ other

-- the calls that began have ids that were given between these two times, each another one
pub record HaveGivenIds (before : CallIds) (notices : List Notice) (after : CallIds) : Type 0 where
  pub given : (place id : ℕ) → BeginsAt notices place id → IsGivenBetween before id after
  pub apart : BeginApart notices

-- One deed

none_told : (name : List ℕ) (ended : List Ended) (place id : ℕ) → BeginsAt (map (Notice.Tells name) ended) place id → ⊥
none_told name [] place id begins = let at = begins.1 in absurd (cc)
none_told name (first ∷ ended) zero id begins =
    let same = same_Some (Notice.Tells name first) begins.0 begins.1 in
    absurd (let wrong : None ≡ Some id = ap call_begun same ∙ begins.2 in cc)
none_told name (first ∷ ended) (suc place) id begins = none_told name ended place id begins

one_begun : (first : Notice) (given place id : ℕ) → call_begun first ≡ Some given → BeginsAt (first ∷ []) place id →
    (place ≡ 0) × (Some given ≡ Some id)
one_begun first given zero id is begins =
    (refl, sym is ∙ ap call_begun (same_Some first begins.0 begins.1) ∙ begins.2)
one_begun first given (suc place) id is begins = absurd (let at = begins.1 in cc)

event_begun : (name : List ℕ) (local : LocalObject) (event : LocalEvent) (place id : ℕ) →
    BeginsAt (noticed name local event) place id → (place ≡ 0) × (begun_id event ≡ Some id)
event_begun name local (LocalEvent.BeginRead given) place id begins =
    one_begun (Notice.Reads name given) given place id refl begins
event_begun name local (LocalEvent.BeginWrite given value) place id begins =
    one_begun (Notice.Writes name given value) given place id refl begins
event_begun name local (LocalEvent.BeginMove given layout) place id begins =
    one_begun (Notice.Moves name given layout) given place id refl begins
event_begun name local (LocalEvent.Advance given) place id begins = absurd (none_told name [] place id begins)
event_begun name local (LocalEvent.Serve letter) place id begins = absurd (none_told name [] place id begins)
event_begun name local (LocalEvent.Take letter) place id begins = absurd (none_told name [] place id begins)
event_begun name local (LocalEvent.Settle given value) place id begins = absurd (none_told name [] place id begins)
event_begun name local (LocalEvent.GiveUp given) place id begins = absurd (none_told name [] place id begins)
event_begun name local (LocalEvent.Close position) place id begins = absurd (none_told name [] place id begins)
event_begun name local (LocalEvent.Grow given) place id begins = absurd (none_told name [] place id begins)
event_begun name local (LocalEvent.Hear letter) place id begins = absurd (none_told name [] place id begins)
event_begun name local (LocalEvent.Redirect letter) place id begins = absurd (none_told name [] place id begins)
event_begun name local (LocalEvent.ReadOn given) place id begins = absurd (none_told name [] place id begins)
event_begun name local (LocalEvent.BeginAnew given) place id begins = absurd (none_told name [] place id begins)
event_begun name local (LocalEvent.Raise position) place id begins = absurd (none_told name [] place id begins)
event_begun name local (LocalEvent.Query given) place id begins = absurd (none_told name [] place id begins)
event_begun name local (LocalEvent.Answer given) place id begins =
    absurd (none_told name (told local (LocalEvent.Answer given)) place id begins)
event_begun name local (LocalEvent.EndEarly given value) place id begins =
    absurd (none_told name (told local (LocalEvent.EndEarly given value)) place id begins)

deed_begun : (fragment : Code) (objects : List ℕ → LocalObject) (deed : Deed) (place id : ℕ) →
    BeginsAt (after_deed fragment objects deed).notices place id → (place ≡ 0) × (deed_id deed ≡ Some id)
deed_begun fragment objects (Deed.Does name event) place id begins = event_begun name (objects name) event place id begins
deed_begun fragment objects (Deed.Resends name letters) place id begins = absurd (none_told name [] place id begins)

-- Deeds

is_later : (before : CallIds) (id : Option ℕ) (now after : CallIds) → IsGiven before id now → IsLater now after → IsLater before after
is_later before None now after same later = subst (λ ids. IsLater ids after) (sym same) later
is_later before (Some id) now after next later = later_then before now after (next_later before now id next) later

pub ids_later : (before after : CallIds) (deeds : List Deed) → HaveNextIds before deeds after → IsLater before after
ids_later before after [] later = later
ids_later before after (deed ∷ deeds) ids =
    is_later before (deed_id deed) ids.0 after ids.1 (ids_later ids.0 after deeds ids.2)

-- what is given from a later time on is given from an earlier one on
given_sooner : (before now after : CallIds) (given : Option ℕ) (id : ℕ) → IsGiven before given now → IsGivenBetween now id after →
    IsGivenBetween before id after
given_sooner before now after given id first is =
    let next = is.1 in (
      is.0,
      record { now = next.now; reached = is_later before given now next.now first next.reached; next = next.next; left = next.left },
      is.2,
    )

-- an id that was given is not given again
given_once : (before now after : CallIds) (id : ℕ) → IsNextId before id now → IsGivenBetween now id after → ⊥
given_once before now after id first second =
    let later = next_later before now id first in
    next_unused (λ other. now) now.node now second.0 id id refl second.1
    (used_now (λ other. now) now.node before now id (sym later.node) first) refl

-- a deed, and deeds behind it
module _ (fragment : Code) (objects : List ℕ → LocalObject) (deed : Deed) (before now after : CallIds) (rest : List Notice)
    (ids : IsGiven before (deed_id deed) now) (later : IsLater now after) (then : HaveGivenIds now rest after) where
  abbrev first : List Notice
  first = (after_deed fragment objects deed).notices

  abbrev Either : (place id : ℕ) → Type 0
  Either place id = BeginsAt first place id ⊎ ((k : ℕ) × (place ≡ length first + k) × BeginsAt rest k id)

  split : (place id : ℕ) → BeginsAt (first ++ rest) place id → Either place id
  split place id begins = go (get_split first rest place begins.0 begins.1)
    where
      go : (slice_get first place ≡ Some begins.0) ⊎ ((k : ℕ) × (place ≡ length first + k) × (slice_get rest k ≡ Some begins.0)) →
          Either place id
      go (inl at) = inl (begins.0, at, begins.2)
      go (inr at) = inr (at.0, at.1, (begins.0, at.2, begins.2))

  next : (place id : ℕ) → BeginsAt first place id → IsNextId before id now
  next place id begins = subst (λ o. IsGiven before o now) (deed_begun fragment objects deed place id begins).1 ids

  given : (place id : ℕ) → Either place id → IsGivenBetween before id after
  given place id (inl begins) = (now, next place id begins, later)
  given place id (inr is) = given_sooner before now after (deed_id deed) id ids (then.given is.0 id is.2)

  apart : (one other id : ℕ) → Either one id → Either other id → one ≡ other
  apart one other id (inl a) (inl b) =
      (deed_begun fragment objects deed one id a).0 ∙ sym (deed_begun fragment objects deed other id b).0
  apart one other id (inl a) (inr b) = absurd (given_once before now after id (next one id a) (then.given b.0 id b.2))
  apart one other id (inr a) (inl b) = absurd (given_once before now after id (next other id b) (then.given a.0 id a.2))
  apart one other id (inr a) (inr b) =
      a.1 ∙ ap (λ k. length first + k) (then.apart a.0 b.0 id a.2 b.2) ∙ sym b.1

  both_begun : HaveGivenIds before (first ++ rest) after
  both_begun = record {
    given = λ place id begins. given place id (split place id begins);
    apart = λ one other id begins also. apart one other id (split one id begins) (split other id also);
  }

pub deeds_begun : (fragment : Code) (deeds : List Deed) (objects : List ℕ → LocalObject) (before after : CallIds) →
    HaveNextIds before deeds after → HaveGivenIds before (after_deeds fragment objects deeds).notices after
deeds_begun fragment [] objects before after ids = record {
  given = λ place id begins. absurd (let at = begins.1 in cc);
  apart = λ one other id begins also. absurd (let at = begins.1 in cc);
}
deeds_begun fragment (deed ∷ deeds) objects before after ids =
    let then = (after_deed fragment objects deed).objects in
    both_begun fragment objects deed before ids.0 after (after_deeds fragment then deeds).notices ids.1
    (ids_later ids.0 after deeds ids.2) (deeds_begun fragment deeds then ids.0 after ids.2)

-- The calls alone

filtered_place : (p : Notice → Bool) (xs : List Notice) (place id : ℕ) → BeginsAt (filter p xs) place id →
    (old : ℕ) × BeginsAt xs old id
filtered_place p [] place id begins = (place, begins)
filtered_place p (x ∷ xs) place id begins = go (p x) place begins (filtered_place p xs)
  where
    go : (b : Bool) (place : ℕ) → BeginsAt (cond b (x ∷ filter p xs) (filter p xs)) place id →
        ((place id : ℕ) → BeginsAt (filter p xs) place id → (old : ℕ) × BeginsAt xs old id) → (old : ℕ) × BeginsAt (x ∷ xs) old id
    go true zero begins later = (0, begins)
    go true (suc place) begins later = let old = later place id begins in (suc old.0, old.1)
    go false place begins later = let old = later place id begins in (suc old.0, old.1)

-- a notice before others that are apart, with the id of none of them
pushed_apart : (x : Notice) (rest : List Notice) → BeginApart rest →
    ((place id : ℕ) → BeginsAt (x ∷ rest) 0 id → BeginsAt rest place id → ⊥) → BeginApart (x ∷ rest)
pushed_apart x rest later none zero zero id a b = refl
pushed_apart x rest later none zero (suc other) id a b = absurd (none other id a b)
pushed_apart x rest later none (suc one) zero id a b = absurd (none one id b a)
pushed_apart x rest later none (suc one) (suc other) id a b = ap suc (later one other id a b)

filtered_apart : (p : Notice → Bool) (xs : List Notice) → BeginApart xs → BeginApart (filter p xs)
filtered_apart p [] apart = apart
filtered_apart p (x ∷ xs) apart =
    go (p x) (filtered_apart p xs (λ one other id a b. (let same = apart (suc one) (suc other) id a b in omega arith)))
  where
    rest : List Notice
    rest = filter p xs

    none : (place id : ℕ) → BeginsAt (x ∷ rest) 0 id → BeginsAt rest place id → ⊥
    none place id a b =
        let old = filtered_place p xs place id b in
        let wrong : 0 ≡ suc old.0 = apart 0 (suc old.0) id a old.1 in absurd (omega arith)

    go : (b : Bool) → BeginApart rest → BeginApart (cond b (x ∷ rest) rest)
    go true later = pushed_apart x rest later none
    go false later = later

pub calls_given : (before after : CallIds) (notices : List Notice) → HaveGivenIds before notices after →
    HaveGivenIds before (filter is_begun notices) after
calls_given before after notices are = record {
  given = λ place id begins. let old = filtered_place is_begun notices place id begins in are.given old.0 id old.1;
  apart = filtered_apart is_begun notices are.apart;
}
