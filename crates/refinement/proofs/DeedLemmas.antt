-- What a node does with all its objects, for the object of one name.
use Rattle.std.proofs.Common.{◌≡◌, ◌⊎◌, inl, inr, ℕ, zero, suc, Bool, true, false, List, [], ◌∷◌, ◌++◌, map}
use Rattle.std.proofs.Common.{None, Some, slice_get, refl, sym, subst, ap, ◌∙◌, append_assoc}
use Rattle.std.proofs.lemmas.List.{append-nil}
use Rattle.std.proofs.lemmas.Option.{same_Some}
use Rattle.std.specs.List.{AllByRecursion}
use Rattle.record.specs.Fragments.{Code}
use Rattle.deeds.specs.CallId.{CallIds, HasRanges}
use Rattle.network.specs.Worlds.{ClusterFile}
use Rattle.letter.specs.declared.letter.Letter.{Letter}
use Rattle.local_object.specs.declared.progress.Ended.{Ended}
use Rattle.local_object.specs.Local.{LocalObject}
use Rattle.local_object.specs.Events.{LocalEvent, done_here}
use Rattle.local_object.specs.Ended.{told}
use Rattle.local_object.specs.May.{MayHappenHere}
use Rattle.local_object.specs.Resent.{IsResent}
use Rattle.refinement.specs.Systems.{System, SystemEvent, system_after}
use Rattle.deeds.specs.Named.{IsOneOf, NamedLetter, is_same_name, with_names}
use Rattle.deeds.specs.Deeds.{Deed, Notice, after_deed, after_deeds, noticed}
use Rattle.deeds.specs.Ids.{HaveNextIds, IsGiven, IsLater, begun_id, deed_id}
use Rattle.deeds.specs.May.{AreDeedLettersKnown, IsAllowed, IsEventAllowed, IsEventLetterKnown, IsDeedLetterKnown, MayAllBeDone, MayBeDone}
use Rattle.deeds.proofs.KnownLetterLemmas.{AreAmong, deed_fed_more}
use Rattle.deeds.proofs.IdLemmas.{given_later}
use Rattle.deeds.proofs.NameLemmas.{names_decided, one_of_both, one_of_more, other_named, own_named}
use Rattle.refinement.specs.Histories.{is_about}
use Rattle.refinement.proofs.HistoryLemmas.{IsHistoryAt, history_beside}
use Rattle.refinement.proofs.SystemRunLemmas.{reached_next}
use Rattle.refinement.proofs.EventLemmas.{acted, still_used}
use Rattle.refinement.proofs.LeadLemmas.{Follows, Leads, posted_more}
use Rattle.deeds.proofs.UsedIdLemmas.{with_ids}

-- What is about other names

apart_false : (name other : List ℕ) → (other ≡ name → ⊥) → is_same_name name other ≡ false
apart_false name other apart = go (is_same_name name other) refl
  where
    go : (b : Bool) → is_same_name name other ≡ b → b ≡ false
    go true e = absurd (apart (sym ((names_decided name other).0 e)))
    go false e = refl

not_named : (name other : List ℕ) (letters : List Letter) (letter : Letter) → (other ≡ name → ⊥) →
    IsOneOf (with_names other letters) (record { name = name; letter = letter }) → ⊥
not_named name other letters letter apart is = go letters is.0 is.1
  where
    go : (letters : List Letter) (i : ℕ) → slice_get (with_names other letters) i ≡ Some (record { name = name; letter = letter }) → ⊥
    go [] i e = absurd (cc)
    go (first ∷ letters) zero e =
        let a : NamedLetter = record { name = other; letter = first } in
        let b : NamedLetter = record { name = name; letter = letter } in
        apart (ap (λ (l : NamedLetter). l.name) (same_Some a b e))
    go (first ∷ letters) (suc i) e = go letters i e

told_beside : (name other : List ℕ) (ended : List Ended) → is_same_name name other ≡ false →
    AllByRecursion (λ notice. is_about name notice ≡ false) (map (Notice.Tells other) ended)
told_beside name other [] apart = tt
told_beside name other (first ∷ ended) apart = (apart, told_beside name other ended apart)

noticed_beside : (name other : List ℕ) (local : LocalObject) (event : LocalEvent) → is_same_name name other ≡ false →
    AllByRecursion (λ notice. is_about name notice ≡ false) (noticed other local event)
noticed_beside name other local (LocalEvent.BeginRead id) apart = (apart, tt)
noticed_beside name other local (LocalEvent.BeginWrite id value) apart = (apart, tt)
noticed_beside name other local (LocalEvent.BeginMove id layout) apart = (apart, tt)
noticed_beside name other local (LocalEvent.Advance id) apart = tt
noticed_beside name other local (LocalEvent.Serve letter) apart = tt
noticed_beside name other local (LocalEvent.Take letter) apart = tt
noticed_beside name other local (LocalEvent.Settle id value) apart = tt
noticed_beside name other local (LocalEvent.Answer id) apart = told_beside name other (told local (LocalEvent.Answer id)) apart
noticed_beside name other local (LocalEvent.GiveUp id) apart = tt
noticed_beside name other local (LocalEvent.EndEarly id value) apart =
    told_beside name other (told local (LocalEvent.EndEarly id value)) apart
noticed_beside name other local (LocalEvent.Close position) apart = tt
noticed_beside name other local (LocalEvent.Grow id) apart = tt
noticed_beside name other local (LocalEvent.Hear letter) apart = tt
noticed_beside name other local (LocalEvent.Redirect letter) apart = tt
noticed_beside name other local (LocalEvent.ReadOn id) apart = tt
noticed_beside name other local (LocalEvent.BeginAnew id) apart = tt
noticed_beside name other local (LocalEvent.Raise position) apart = tt
noticed_beside name other local (LocalEvent.Query id) apart = tt

-- One deed

-- a node that keeps these objects does the deed
abbrev DeedLeads : (fragment : Code) (name : List ℕ) (number mover : ℕ) (ids : ℕ → CallIds) → Deed → Type 0
DeedLeads fragment name number mover ids deed = (system : System) (objects : List ℕ → LocalObject) (mine now : CallIds)
    (letters : List NamedLetter) (notices : List Notice) → Follows fragment name system (with_ids ids number mine) letters notices →
    mine.node ≡ number → HasRanges mine → system.objects number ≡ objects name → mover ≡ (system.files number).mover →
    MayBeDone fragment objects deed → IsDeedLetterKnown letters deed → IsAllowed number mover deed → IsGiven mine (deed_id deed) now →
    Leads fragment name system number ((after_deed fragment objects deed).objects name) (with_ids ids number now)
    (letters ++ (after_deed fragment objects deed).sent) (notices ++ (after_deed fragment objects deed).notices)

module _ (fragment : Code) (name : List ℕ) (number mover : ℕ) (ids : ℕ → CallIds) where
  -- by what the node keeps of the object
  event_at : (event : LocalEvent) (system : System) (local : LocalObject) (mine now : CallIds) (letters : List NamedLetter)
      (notices : List Notice) → Follows fragment name system (with_ids ids number mine) letters notices →
      mine.node ≡ number → HasRanges mine → system.objects number ≡ local → mover ≡ (system.files number).mover →
      MayHappenHere fragment local event → IsEventLetterKnown letters name event → IsEventAllowed number mover event →
      IsGiven mine (begun_id event) now →
      Leads fragment name system number (done_here fragment local event).local (with_ids ids number now)
      (letters ++ with_names name (done_here fragment local event).sent) (notices ++ noticed name local event)
  event_at event system local mine now letters notices follows own within same moves may fed allowed given =
      subst (λ (l : LocalObject). Leads fragment name system number (done_here fragment l event).local (with_ids ids number now)
      (letters ++ with_names name (done_here fragment l event).sent) (notices ++ noticed name l event)) same
      (acted fragment name system ids number mine now letters notices follows own within event
      (subst (λ (l : LocalObject). MayHappenHere fragment l event) (sym same) may) fed
      (subst (λ m. IsEventAllowed number m event) moves allowed) given)

  does_own : (event : LocalEvent) → DeedLeads fragment name number mover ids (Deed.Does name event)
  does_own event system objects mine now letters notices follows own within same moves may fed allowed given =
      subst (λ (l : LocalObject). Leads fragment name system number l (with_ids ids number now)
      (letters ++ with_names name (done_here fragment (objects name) event).sent) (notices ++ noticed name (objects name) event))
      (sym (own_named objects name (done_here fragment (objects name) event).local))
      (event_at event system (objects name) mine now letters notices follows own within same moves may fed allowed given)

  resends_own : (again : List Letter) → DeedLeads fragment name number mover ids (Deed.Resends name again)
  resends_own again system objects mine now letters notices follows own within same moves may fed allowed given = record {
    next = system_after fragment system (SystemEvent.Resends number again);
    own = same;
    others = λ other apart. refl;
    files = refl;
    follows = record {
      reached = reached_next fragment system (SystemEvent.Resends number again) follows.reached
          (subst (λ (l : LocalObject). AllByRecursion (IsResent fragment l) again) (sym same) may);
      posted = posted_more name system.letters again letters follows.posted;
      used = still_used fragment name system ids number mine now letters notices follows own within
          (given_later mine now None within given);
      history = subst (λ xs. IsHistoryAt name xs system.history system.now) (sym (append-nil notices)) follows.history;
    };
  }

  -- a deed with the object of another name
  beside : (other : List ℕ) (system : System) (local : LocalObject) (mine now : CallIds) (letters : List NamedLetter)
      (notices : List Notice) (sent : List Letter) (seen : List Notice) →
      Follows fragment name system (with_ids ids number mine) letters notices →
      mine.node ≡ number → HasRanges mine → system.objects number ≡ local → (other ≡ name → ⊥) → IsLater mine now →
      AllByRecursion (λ notice. is_about name notice ≡ false) seen →
      Leads fragment name system number local (with_ids ids number now) (letters ++ with_names other sent) (notices ++ seen)
  beside other system local mine now letters notices sent seen follows own within same apart later none = record {
    next = system;
    own = same;
    others = λ more differ. refl;
    files = refl;
    follows = record {
      reached = follows.reached;
      posted = λ letter is. posted letter (one_of_both letters (with_names other sent) (record { name = name; letter = letter }) is);
      used = still_used fragment name system ids number mine now letters notices follows own within later;
      history = history_beside name notices seen system.history system.now none (λ ended. (names_decided name name).1 refl) follows.history;
    };
  }
    where
      posted : (letter : Letter) → IsOneOf letters (record { name = name; letter = letter })
          ⊎ IsOneOf (with_names other sent) (record { name = name; letter = letter }) →
          (place : ℕ) × (slice_get system.letters place ≡ Some letter)
      posted letter (inl a) = follows.posted letter a
      posted letter (inr b) = absurd (not_named name other sent letter apart b)

  does_other : (other : List ℕ) → (other ≡ name → ⊥) → (event : LocalEvent) →
      DeedLeads fragment name number mover ids (Deed.Does other event)
  does_other other apart event system objects mine now letters notices follows own within same moves may fed allowed given =
      let done = done_here fragment (objects other) event in
      subst (λ (l : LocalObject). Leads fragment name system number l (with_ids ids number now)
      (letters ++ with_names other done.sent) (notices ++ noticed other (objects other) event))
      (sym (other_named objects other done.local name (apart_false other name (λ e. apart (sym e)))))
      (beside other system (objects name) mine now letters notices done.sent (noticed other (objects other) event) follows own within
      same apart (given_later mine now (begun_id event) within given)
      (noticed_beside name other (objects other) event (apart_false name other apart)))

  resends_other : (other : List ℕ) → (other ≡ name → ⊥) → (again : List Letter) →
      DeedLeads fragment name number mover ids (Deed.Resends other again)
  resends_other other apart again system objects mine now letters notices follows own within same moves may fed allowed given =
      beside other system (objects name) mine now letters notices again [] follows own within same apart
      (given_later mine now None within given) tt

  is_apart : (other : List ℕ) → is_same_name other name ≡ false → other ≡ name → ⊥
  is_apart other e same = absurd (let wrong : false ≡ true = sym e ∙ (names_decided other name).1 same in cc)

  deed_leads : (deed : Deed) → DeedLeads fragment name number mover ids deed
  deed_leads (Deed.Does other event) = go (is_same_name other name) refl
    where
      go : (b : Bool) → is_same_name other name ≡ b → DeedLeads fragment name number mover ids (Deed.Does other event)
      go true e = subst (λ (o : List ℕ). DeedLeads fragment name number mover ids (Deed.Does o event))
          (sym ((names_decided other name).0 e)) (does_own event)
      go false e = does_other other (is_apart other e) event
  deed_leads (Deed.Resends other again) = go (is_same_name other name) refl
    where
      go : (b : Bool) → is_same_name other name ≡ b → DeedLeads fragment name number mover ids (Deed.Resends other again)
      go true e = subst (λ (o : List ℕ). DeedLeads fragment name number mover ids (Deed.Resends o again))
          (sym ((names_decided other name).0 e)) (resends_own again)
      go false e = resends_other other (is_apart other e) again

  -- All deeds

  pub deeds_lead : (deeds : List Deed) (system : System) (objects : List ℕ → LocalObject) (mine last : CallIds)
      (letters : List NamedLetter) (notices : List Notice) (got : List NamedLetter) →
      Follows fragment name system (with_ids ids number mine) letters notices → mine.node ≡ number → HasRanges mine →
      system.objects number ≡ objects name → mover ≡ (system.files number).mover → MayAllBeDone fragment objects deeds →
      AreDeedLettersKnown fragment objects got deeds → AreAmong got letters → AllByRecursion (IsAllowed number mover) deeds →
      HaveNextIds mine deeds last →
      Leads fragment name system number ((after_deeds fragment objects deeds).objects name) (with_ids ids number last)
      (letters ++ (after_deeds fragment objects deeds).sent) (notices ++ (after_deeds fragment objects deeds).notices)
  deeds_lead [] system objects mine last letters notices got follows own within same moves may fed among allowed given =
      subst (λ ls. Leads fragment name system number (objects name) (with_ids ids number last) ls (notices ++ []))
      (sym (append-nil letters))
      (subst (λ ns. Leads fragment name system number (objects name) (with_ids ids number last) letters ns)
      (sym (append-nil notices)) here)
    where
      here : Leads fragment name system number (objects name) (with_ids ids number last) letters notices
      here = record {
        next = system;
        own = same;
        others = λ other apart. refl;
        files = refl;
        follows = record {
          reached = follows.reached;
          posted = follows.posted;
          used = still_used fragment name system ids number mine last letters notices follows own within given;
          history = follows.history;
        };
      }
  deeds_lead (deed ∷ deeds) system objects mine last letters notices got follows own within same moves may fed among allowed given =
      let now = given.0 in
      let first = after_deed fragment objects deed in
      let one = deed_leads deed system objects mine now letters notices follows own within same moves may.0
      (deed_fed_more got letters among deed fed.0) allowed.0 given.1 in
      let later = given_later mine now (deed_id deed) within given.1 in
      let rest = deeds_lead deeds one.next first.objects now last (letters ++ first.sent) (notices ++ first.notices)
      (got ++ first.sent) one.follows (later.node ∙ own) later.within one.own
      (moves ∙ ap (λ (files : ℕ → ClusterFile). (files number).mover) (sym one.files)) may.1 fed.1
      (one_of_more got letters first.sent among) allowed.1 given.2 in
      let after = after_deeds fragment first.objects deeds in
      let whole : Follows fragment name rest.next (with_ids ids number last) (letters ++ (first.sent ++ after.sent))
      (notices ++ (first.notices ++ after.notices)) =
      subst (λ ls. Follows fragment name rest.next (with_ids ids number last) ls (notices ++ (first.notices ++ after.notices)))
      (append_assoc letters first.sent after.sent)
      (subst (λ ns. Follows fragment name rest.next (with_ids ids number last) ((letters ++ first.sent) ++ after.sent) ns)
      (append_assoc notices first.notices after.notices) rest.follows) in record {
        next = rest.next;
        own = rest.own;
        others = λ other apart. rest.others other apart ∙ one.others other apart;
        files = rest.files ∙ one.files;
        follows = whole;
      }
