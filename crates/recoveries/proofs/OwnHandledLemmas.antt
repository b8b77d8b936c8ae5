-- What a node handles leaves all objects its own.
use Rattle.std.proofs.Common.{◌≡◌, ◌^◌, ℕ, zero, suc, Bool, true, false, cond, nat_lt, List, [], ◌∷◌, ◌++◌, Option, None, Some}
use Rattle.std.proofs.Common.{slice_get, refl, sym, subst, ap, ◌∙◌}
use Rattle.std.specs.List.{AllByRecursion}
use Rattle.deeds.specs.CallId.{CallIds, after_given}
use Rattle.deeds.specs.Deeds.{Deed, after_deed, after_deeds}
use Rattle.deeds.specs.Ids.{HaveNextIds, IsGiven, deed_id}
use Rattle.deeds.specs.Kept.{FileOfNames}
use Rattle.deeds.specs.May.{AreDeedLettersKnown, IsEventLetterKnown, IsDeedLetterKnown, MayAllBeDone, MayBeDone}
use Rattle.deeds.specs.Named.{NamedLetter, is_same_name, with_names}
use Rattle.open_calls.proofs.ListLemmas.{all_append}
use Rattle.deeds.proofs.NameLemmas.{names_decided}
use Rattle.encoder.specs.Fragment.{fragment}
use Rattle.letter.specs.declared.letter.Letter.{Letter}
use Rattle.local_object.specs.Events.{LocalEvent, done_here}
use Rattle.local_object.specs.Local.{LocalObject}
use Rattle.object_letters.specs.Rebuildable.{HasLawfulLayouts, IsFit}
use Rattle.recoveries.specs.RewrittenLaws.{HandlingKeepsOwn, IsLawfulLetter}
use Rattle.recoveries.specs.RewritingNodes.{IsObjectOf}
use Rattle.recoveries.proofs.LawfulLetterLemmas.{event_lawful, resent_lawful}
use Rattle.recoveries.proofs.OwnObjectLemmas.{event_own}

-- Letters

of_one : (P : NamedLetter → Type 0) (got : List NamedLetter) → AllByRecursion P got → (i : ℕ) (letter : NamedLetter) →
    slice_get got i ≡ Some letter → P letter
of_one P [] all i letter at = absurd (cc)
of_one P (first ∷ got) all zero letter at = let same : first ≡ letter = cc in subst P same all.0
of_one P (first ∷ got) all (suc i) letter at = of_one P got all.1 i letter at

event_fit : (got : List NamedLetter) (name : List ℕ) (event : LocalEvent) → AllByRecursion IsLawfulLetter got →
    IsEventLetterKnown got name event → IsFit event
event_fit got name (LocalEvent.Serve letter) lawful fed = of_one IsLawfulLetter got lawful fed.0 _ fed.1
event_fit got name (LocalEvent.Take letter) lawful fed = of_one IsLawfulLetter got lawful fed.0 _ fed.1
event_fit got name (LocalEvent.BeginRead id) lawful fed = tt
event_fit got name (LocalEvent.BeginWrite id value) lawful fed = tt
event_fit got name (LocalEvent.BeginMove id layout) lawful fed = tt
event_fit got name (LocalEvent.Advance id) lawful fed = tt
event_fit got name (LocalEvent.Settle id value) lawful fed = tt
event_fit got name (LocalEvent.Answer id) lawful fed = tt
event_fit got name (LocalEvent.GiveUp id) lawful fed = tt
event_fit got name (LocalEvent.EndEarly id value) lawful fed = tt
event_fit got name (LocalEvent.Close position) lawful fed = tt
event_fit got name (LocalEvent.Raise position) lawful fed = tt
event_fit got name (LocalEvent.Grow id) lawful fed = tt
event_fit got name (LocalEvent.Hear letter) lawful fed = of_one IsLawfulLetter got lawful fed.0 _ fed.1
event_fit got name (LocalEvent.Redirect letter) lawful fed = of_one IsLawfulLetter got lawful fed.0 _ fed.1
event_fit got name (LocalEvent.ReadOn id) lawful fed = tt
event_fit got name (LocalEvent.BeginAnew id) lawful fed = tt
event_fit got name (LocalEvent.Query id) lawful fed = tt

named_lawful : (name : List ℕ) (letters : List Letter) → AllByRecursion HasLawfulLayouts letters →
    AllByRecursion IsLawfulLetter (with_names name letters)
named_lawful name [] all = tt
named_lawful name (letter ∷ letters) all = (all.0, named_lawful name letters all.1)

-- Deeds

module _ (file : FileOfNames) (number : ℕ) where
  abbrev AreOwn : (List ℕ → LocalObject) → Type 0
  AreOwn objects = (name : List ℕ) → IsObjectOf file number name (objects name)

  deed_own : (objects : List ℕ → LocalObject) (got : List NamedLetter) (deed : Deed) → AllByRecursion IsLawfulLetter got →
      MayBeDone fragment objects deed → IsDeedLetterKnown got deed → AreOwn objects → AreOwn (after_deed fragment objects deed).objects
  deed_own objects got (Deed.Does name event) lawful may fed own other = go (is_same_name name other) refl
    where
      go : (b : Bool) → is_same_name name other ≡ b →
          IsObjectOf file number other (cond b (done_here fragment (objects name) event).local (objects other))
      go true e = subst (λ (n : List ℕ). IsObjectOf file number n (done_here fragment (objects name) event).local)
          ((names_decided name other).0 e)
          (event_own file number name (objects name) event may (event_fit got name event lawful fed) (own name))
      go false e = own other
  deed_own objects got (Deed.Resends name letters) lawful may fed own other = own other

  deed_lawful : (objects : List ℕ → LocalObject) (got : List NamedLetter) (deed : Deed) → AllByRecursion IsLawfulLetter got →
      MayBeDone fragment objects deed → IsDeedLetterKnown got deed → AreOwn objects →
      AllByRecursion IsLawfulLetter (after_deed fragment objects deed).sent
  deed_lawful objects got (Deed.Does name event) lawful may fed own =
      named_lawful name (done_here fragment (objects name) event).sent
      (event_lawful (objects name) event (own name).rebuildable may (event_fit got name event lawful fed))
  deed_lawful objects got (Deed.Resends name letters) lawful may fed own =
      named_lawful name letters (resent_lawful (objects name) letters (own name).rebuildable may)

  deeds_own : (objects : List ℕ → LocalObject) (got : List NamedLetter) (deeds : List Deed) → AllByRecursion IsLawfulLetter got →
      MayAllBeDone fragment objects deeds → AreDeedLettersKnown fragment objects got deeds → AreOwn objects →
      AreOwn (after_deeds fragment objects deeds).objects
  deeds_own objects got [] lawful may fed own = own
  deeds_own objects got (deed ∷ deeds) lawful may fed own =
      let first = after_deed fragment objects deed in
      deeds_own first.objects (got ++ first.sent) deeds
      (all_append IsLawfulLetter got first.sent lawful (deed_lawful objects got deed lawful may.0 fed.0 own)) may.1 fed.1
      (deed_own objects got deed lawful may.0 fed.0 own)

-- The number of the node stays

after_node : (ids : CallIds) → (after_given ids).node ≡ ids.node
after_node ids = go (nat_lt ids.given (2 ^ 32))
  where
    go : (b : Bool) → (let next : CallIds = cond b (record ids { given = suc ids.given }) ids in next).node ≡ ids.node
    go true = refl
    go false = refl

given_node : (before after : CallIds) (id : Option ℕ) → IsGiven before id after → after.node ≡ before.node
given_node before after None same = ap (λ (i : CallIds). i.node) (sym same)
given_node before after (Some id) is = ap (λ (i : CallIds). i.node) (sym is.left) ∙ after_node is.now ∙ is.reached.node

ids_node : (before after : CallIds) (deeds : List Deed) → HaveNextIds before deeds after → after.node ≡ before.node
ids_node before after [] later = later.node
ids_node before after (deed ∷ deeds) ids =
    ids_node ids.0 after deeds ids.2 ∙ given_node before ids.0 (deed_id deed) ids.1

pub handled_own : HandlingKeepsOwn
handled_own old new got sent notices lawful handled own name =
    subst (λ (n : ℕ). IsObjectOf new.file n name (new.objects name)) (sym (ids_node old.ids new.ids handled.deeds handled.ids))
    (subst (λ (f : FileOfNames). IsObjectOf f old.ids.node name (new.objects name)) (sym handled.file)
    (subst (IsObjectOf old.file old.ids.node name) (sym (handled.objects name))
    (deeds_own old.file old.ids.node old.objects got handled.deeds lawful handled.may handled.fed own name)))
