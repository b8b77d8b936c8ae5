-- What a node does with the object of one name.
use Rattle.std.proofs.Common.{◌≡◌, ℕ, List, [], ◌∷◌, ◌++◌, map, refl, sym, subst, ap, ◌∙◌}
use Rattle.std.proofs.lemmas.List.{map-append}
use Rattle.std.specs.List.{AllByRecursion}
use Rattle.record.specs.Fragments.{Code}
use Rattle.local_object.specs.Local.{LocalObject}
use Rattle.local_object.specs.Events.{LocalEvent, all_done, done_here}
use Rattle.local_object.specs.May.{MayAllHappen}
use Rattle.open_calls.proofs.ListLemmas.{all_weaker}
use Rattle.deeds.specs.Named.{NamedLetter, with_names, with_named}
use Rattle.deeds.specs.Deeds.{Deed, after_deed, after_deeds, all_noticed, noticed}
use Rattle.deeds.specs.May.{AreDeedLettersKnown, IsAllowed, IsEventAllowed, IsEventLetterKnown, MayAllBeDone}
use Rattle.deeds.proofs.NameLemmas.{one_of_first, own_named, same_named, twice_named}
use Rattle.deeds.proofs.KnownLetterLemmas.{event_fed_more}

-- the events, as deeds
abbrev pub at_name : (name : List ℕ) → List LocalEvent → List Deed
at_name name events = map (Deed.Does name) events

module _ (fragment : Code) (name : List ℕ) where
  -- the objects after an event
  abbrev next_objects : (objects : List ℕ → LocalObject) → LocalEvent → (other : List ℕ) → LocalObject
  next_objects objects event = with_named objects name (done_here fragment (objects name) event).local

  own_next : (objects : List ℕ → LocalObject) (event : LocalEvent) →
      next_objects objects event name ≡ (done_here fragment (objects name) event).local
  own_next objects event = own_named objects name (done_here fragment (objects name) event).local

  pub objects_at : (objects : List ℕ → LocalObject) (events : List LocalEvent) (other : List ℕ) →
      (after_deeds fragment objects (at_name name events)).objects other
      ≡ with_named objects name (all_done fragment (objects name) events).local other
  objects_at objects [] other = same_named objects name other
  objects_at objects (event ∷ events) other =
      let done = done_here fragment (objects name) event in
      objects_at (next_objects objects event) events other
      ∙ ap (λ local. with_named (next_objects objects event) name (all_done fragment local events).local other) (own_next objects event)
      ∙ twice_named objects name done.local (all_done fragment done.local events).local other

  pub sent_at : (objects : List ℕ → LocalObject) (events : List LocalEvent) →
      (after_deeds fragment objects (at_name name events)).sent ≡ with_names name (all_done fragment (objects name) events).sent
  sent_at objects [] = refl
  sent_at objects (event ∷ events) =
      let done = done_here fragment (objects name) event in
      ap (λ xs. with_names name done.sent ++ xs) (sent_at (next_objects objects event) events
      ∙ ap (λ local. with_names name (all_done fragment local events).sent) (own_next objects event))
      ∙ sym (map-append (λ letter. let it : NamedLetter = record { name = name; letter = letter } in it) done.sent
      (all_done fragment done.local events).sent)

  pub notices_at : (objects : List ℕ → LocalObject) (events : List LocalEvent) →
      (after_deeds fragment objects (at_name name events)).notices ≡ all_noticed fragment name (objects name) events
  notices_at objects [] = refl
  notices_at objects (event ∷ events) =
      ap (λ xs. noticed name (objects name) event ++ xs) (notices_at (next_objects objects event) events
      ∙ ap (λ local. all_noticed fragment name local events) (own_next objects event))

  pub may_at : (objects : List ℕ → LocalObject) (events : List LocalEvent) → MayAllHappen fragment (objects name) events →
      MayAllBeDone fragment objects (at_name name events)
  may_at objects [] may = tt
  may_at objects (event ∷ events) may = (
    may.0,
    may_at (next_objects objects event) events
        (subst (λ local. MayAllHappen fragment local events) (sym (own_next objects event)) may.1),
  )

  pub fed_at : (objects : List ℕ → LocalObject) (got : List NamedLetter) (events : List LocalEvent) →
      AllByRecursion (IsEventLetterKnown got name) events → AreDeedLettersKnown fragment objects got (at_name name events)
  fed_at objects got [] fed = tt
  fed_at objects got (event ∷ events) fed =
      let first = after_deed fragment objects (Deed.Does name event) in (
        fed.0,
        fed_at first.objects (got ++ first.sent) events
            (all_weaker (IsEventLetterKnown got name) (IsEventLetterKnown (got ++ first.sent) name)
            (event_fed_more got (got ++ first.sent) (one_of_first got first.sent) name) events fed.1),
      )

pub allowed_at : (name : List ℕ) (number mover : ℕ) (events : List LocalEvent) →
    AllByRecursion (IsEventAllowed number mover) events → AllByRecursion (IsAllowed number mover) (at_name name events)
allowed_at name number mover [] allowed = tt
allowed_at name number mover (event ∷ events) allowed = (allowed.0, allowed_at name number mover events allowed.1)
