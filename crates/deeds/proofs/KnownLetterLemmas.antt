-- Letters that deeds serve, take, hear of or send back.
use Rattle.std.proofs.Common.{ℕ, List, [], ◌∷◌, ◌++◌, sym, subst, append_assoc}
use Rattle.std.proofs.lemmas.List.{append-nil}
use Rattle.record.specs.Fragments.{Code}
use Rattle.local_object.specs.Local.{LocalObject}
use Rattle.local_object.specs.Events.{LocalEvent}
use Rattle.deeds.specs.Named.{IsOneOf, NamedLetter}
use Rattle.deeds.specs.Deeds.{Deed, after_deed, after_deeds}
use Rattle.deeds.specs.May.{AreDeedLettersKnown, IsEventLetterKnown, IsDeedLetterKnown}
use Rattle.deeds.proofs.NameLemmas.{one_of_more}

abbrev pub AreAmong : List NamedLetter → List NamedLetter → Type 0
AreAmong got more = (letter : NamedLetter) → IsOneOf got letter → IsOneOf more letter

pub event_fed_more : (got more : List NamedLetter) → AreAmong got more → (name : List ℕ) (event : LocalEvent) →
    IsEventLetterKnown got name event → IsEventLetterKnown more name event
event_fed_more got more among name (LocalEvent.Serve letter) fed = among (record { name = name; letter = letter }) fed
event_fed_more got more among name (LocalEvent.Take letter) fed = among (record { name = name; letter = letter }) fed
event_fed_more got more among name (LocalEvent.Hear letter) fed = among (record { name = name; letter = letter }) fed
event_fed_more got more among name (LocalEvent.Redirect letter) fed = among (record { name = name; letter = letter }) fed
event_fed_more got more among name _ fed = tt

pub deed_fed_more : (got more : List NamedLetter) → AreAmong got more → (deed : Deed) → IsDeedLetterKnown got deed
    → IsDeedLetterKnown more deed
deed_fed_more got more among (Deed.Does name event) fed = event_fed_more got more among name event fed
deed_fed_more got more among (Deed.Resends name letters) fed = tt

pub fed_more : (fragment : Code) (objects : List ℕ → LocalObject) (got more : List NamedLetter) (deeds : List Deed) →
    AreAmong got more → AreDeedLettersKnown fragment objects got deeds → AreDeedLettersKnown fragment objects more deeds
fed_more fragment objects got more [] among fed = tt
fed_more fragment objects got more (deed ∷ deeds) among fed =
    let first = after_deed fragment objects deed in (
      deed_fed_more got more among deed fed.0,
      fed_more fragment first.objects (got ++ first.sent) (more ++ first.sent) deeds (one_of_more got more first.sent among) fed.1,
    )

pub fed_append : (fragment : Code) (objects : List ℕ → LocalObject) (got : List NamedLetter) (first second : List Deed) →
    AreDeedLettersKnown fragment objects got first →
    AreDeedLettersKnown fragment (after_deeds fragment objects first).objects (got ++ (after_deeds fragment objects first).sent) second →
    AreDeedLettersKnown fragment objects got (first ++ second)
fed_append fragment objects got [] second a b =
    fed_more fragment objects (got ++ []) got second (λ letter is. subst (λ xs. IsOneOf xs letter) (append-nil got) is) b
fed_append fragment objects got (deed ∷ first) second a b =
    let done = after_deed fragment objects deed in
    let rest = after_deeds fragment done.objects first in (
      a.0,
      fed_append fragment done.objects (got ++ done.sent) first second a.1
          (subst (λ xs. AreDeedLettersKnown fragment rest.objects xs second) (sym (append_assoc got done.sent rest.sent)) b),
    )
