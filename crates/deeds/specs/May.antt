-- When a node may do deeds, one after another.
use Rattle.std.specs.Prelude.{◌≡◌, ℕ, List, [], ◌∷◌, ◌++◌}
use Rattle.std.specs.List.{AllByRecursion}
use Rattle.record.specs.Fragments.{Code}
use Rattle.local_object.specs.Local.{LocalObject}
use Rattle.local_object.specs.Events.{LocalEvent}
use Rattle.local_object.specs.May.{MayHappenHere}
use Rattle.local_object.specs.Resent.{IsResent}
use Rattle.deeds.specs.Named.{NamedLetter, IsOneOf}
use Rattle.deeds.specs.Deeds.{Deed, after_deed}

-- the deed may be done according to what the node keeps: the event may happen at the object, or each letter is of a
-- current phase
abbrev pub MayBeDone : Code → (objects : List ℕ → LocalObject) → Deed → Type 0
MayBeDone fragment objects (Deed.Does name event) = MayHappenHere fragment (objects name) event
MayBeDone fragment objects (Deed.Resends name letters) = AllByRecursion (IsResent fragment (objects name)) letters

-- these deeds may be done one after another
abbrev pub MayAllBeDone : Code → (objects : List ℕ → LocalObject) → List Deed → Type 0
MayAllBeDone fragment objects [] = Unit {0}
MayAllBeDone fragment objects (deed ∷ deeds) =
    MayBeDone fragment objects deed × MayAllBeDone fragment (after_deed fragment objects deed).objects deeds

-- the letter that an event at the object of a name serves, takes, hears of or sends back, if there is one, is one of
-- these
abbrev pub IsEventLetterKnown : List NamedLetter → (name : List ℕ) → LocalEvent → Type 0
IsEventLetterKnown got name (LocalEvent.Serve letter) = IsOneOf got (record { name = name; letter = letter })
IsEventLetterKnown got name (LocalEvent.Take letter) = IsOneOf got (record { name = name; letter = letter })
IsEventLetterKnown got name (LocalEvent.Hear letter) = IsOneOf got (record { name = name; letter = letter })
IsEventLetterKnown got name (LocalEvent.Redirect letter) = IsOneOf got (record { name = name; letter = letter })
IsEventLetterKnown got name event = Unit {0}

-- the letter that a deed serves, takes, hears of or sends back, if there is one, is one of these
abbrev pub IsDeedLetterKnown : List NamedLetter → Deed → Type 0
IsDeedLetterKnown got (Deed.Does name event) = IsEventLetterKnown got name event
IsDeedLetterKnown got (Deed.Resends name letters) = Unit {0}

-- each letter that a deed serves, takes, hears of or sends back is one of these, or one that an earlier deed sent
abbrev pub AreDeedLettersKnown : Code → (objects : List ℕ → LocalObject) → (got : List NamedLetter) → List Deed → Type 0
AreDeedLettersKnown fragment objects got [] = Unit {0}
AreDeedLettersKnown fragment objects got (deed ∷ deeds) =
    let first = after_deed fragment objects deed in
    IsDeedLetterKnown got deed × AreDeedLettersKnown fragment first.objects (got ++ first.sent) deeds

-- the event begins no move, or the node with this number is the one that moves objects
abbrev pub IsEventAllowed : (number mover : ℕ) → LocalEvent → Type 0
IsEventAllowed number mover (LocalEvent.BeginMove id layout) = number ≡ mover
IsEventAllowed number mover event = Unit {0}

-- the deed begins no move, or the node with this number is the one that moves objects
abbrev pub IsAllowed : (number mover : ℕ) → Deed → Type 0
IsAllowed number mover (Deed.Does name event) = IsEventAllowed number mover event
IsAllowed number mover (Deed.Resends name letters) = Unit {0}
