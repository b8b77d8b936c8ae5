-- What a node does with the object of a name is an event of all nodes for that object.
use Rattle.std.proofs.Common.{◌≡◌, ◌≤◌, ◌+◌, ◌*◌, ℕ, zero, suc, List, [], ◌∷◌, ◌++◌}
use Rattle.std.proofs.Common.{map, Option, None, Some, refl, sym, subst, ap, ◌∙◌, arith}
use Rattle.std.proofs.lemmas.List.{append-nil}
use Rattle.std.specs.List.{AllByRecursion}
use Rattle.record.specs.declared.call.CallKind.TheVariants.{Read, Write, Move}
use Rattle.record.specs.declared.call.Entry.{Entry}
use Rattle.record.specs.Fragments.{Code}
use Rattle.deeds.specs.CallId.{CallIds, HasRanges}
use Rattle.open_calls.specs.OpenCalls.{NodeCall, open_call}
use Rattle.local_object.specs.declared.progress.Ended.{Ended}
use Rattle.local_object.specs.Local.{LocalObject}
use Rattle.local_object.specs.Events.{LocalEvent, done_here}
use Rattle.local_object.specs.Ended.{told_early, told_early_if, told_if, told_of}
use Rattle.local_object.specs.May.{MayHappenHere}
use Rattle.starts.specs.Reading.{most_events}
use Rattle.told_queries.specs.Courses.{spare_events}
use Rattle.refinement.specs.Histories.{told_entry}
use Rattle.refinement.specs.Refined.{begun_entry, with_answer, with_early_answer}
use Rattle.refinement.specs.Starting.{event_count}
use Rattle.refinement.specs.WellFormed.{HasEntry}
use Rattle.refinement.specs.SeenHistories.{IsBegunAs}
use Rattle.refinement.specs.Systems.{IsPremisedIn, System, SystemEvent, system_after}
use Rattle.deeds.specs.Named.{NamedLetter, with_names}
use Rattle.deeds.specs.Deeds.{Notice, noticed}
use Rattle.deeds.specs.Ids.{IsGiven, IsLater, IsNextId, begun_id}
use Rattle.deeds.specs.May.{IsEventAllowed, IsEventLetterKnown}
use Rattle.deeds.proofs.IdLemmas.{given_later, next_later}
use Rattle.open_calls.proofs.ListLemmas.{all_append, all_weaker}
use Rattle.deeds.proofs.NameLemmas.{names_decided}
use Rattle.refinement.proofs.HistoryLemmas.{AreTold, IsHistoryAt, history_later, history_push}
use Rattle.refinement.proofs.SeenAnswerLemmas.{seen_answered}
use Rattle.refinement.proofs.SeenHistoryLemmas.{IsSeenAt, seen_begun}
use Rattle.refinement.proofs.SystemRunLemmas.{open_entry, reached_next}
use Rattle.refinement.proofs.ToldEntryLemmas.{IsAnswerTo, answer_of, early_of, told_answer}
use Rattle.refinement.proofs.ToldLemmas.{IsToldIn, later_told, now_told, open_apart, still_told}
use Rattle.deeds.proofs.UsedIdLemmas.{IsUsed, next_free, used_later, used_now, with_ids}
use Rattle.refinement.proofs.LeadLemmas.{Follows, Leads, all_map, ended_in, other_object, own_object, posted_more, used_told}

-- time does not go back, and goes on with an event
not_less : (now more : ℕ) → now ≤ now + more
not_less now more = omega arith

one_more : (now more : ℕ) → suc now ≤ now + (suc more + spare_events)
one_more now more = omega arith

module _ (fragment : Code) (name : List ℕ) (system : System) (ids : ℕ → CallIds) (number : ℕ) (mine now : CallIds)
    (letters : List NamedLetter) (notices : List Notice)
    (follows : Follows fragment name system (with_ids ids number mine) letters notices) (own : mine.node ≡ number)
    (within : HasRanges mine) where
  abbrev local : LocalObject
  local = system.objects number

  abbrev after : LocalEvent → System
  after event = system_after fragment system (SystemEvent.Acts number event)

  pub still_used : IsLater mine now → AllByRecursion (λ entry. IsUsed (with_ids ids number now) entry.call) system.history
  still_used later =
      all_weaker (λ (entry : Entry). IsUsed (with_ids ids number mine) entry.call)
      (λ (entry : Entry). IsUsed (with_ids ids number now) entry.call)
      (λ entry used. used_later ids number mine now later entry.call used) system.history follows.used

  leads : (event : LocalEvent) (seen : List Notice) → MayHappenHere fragment local event → IsPremisedIn system number event →
      AllByRecursion (λ entry. IsUsed (with_ids ids number now) entry.call) (after event).history →
      IsHistoryAt name (notices ++ seen) (after event).history (after event).now →
      Leads fragment name system number (done_here fragment local event).local (with_ids ids number now)
      (letters ++ with_names name (done_here fragment local event).sent) (notices ++ seen)
  leads event seen may premised used history = record {
    next = after event;
    own = own_object system.objects number (done_here fragment local event).local;
    others = λ other apart. other_object system.objects number (done_here fragment local event).local other apart;
    files = refl;
    follows = record {
      reached = reached_next fragment system (SystemEvent.Acts number event) follows.reached (may, premised);
      posted = posted_more name system.letters (done_here fragment local event).sent letters follows.posted;
      used = used;
      history = history;
    };
  }

  -- an event that clients do not see
  quiet : (later : ℕ) → system.now ≤ later → IsHistoryAt name (notices ++ []) system.history later
  quiet later more =
      subst (λ xs. IsHistoryAt name xs system.history later) (sym (append-nil notices))
      (history_later name notices system.history system.now later more follows.history)

  quietly : (event : LocalEvent) → MayHappenHere fragment local event → IsPremisedIn system number event → IsGiven mine None now →
      (after event).history ≡ system.history →
      Leads fragment name system number (done_here fragment local event).local (with_ids ids number now)
      (letters ++ with_names name (done_here fragment local event).sent) (notices ++ [])
  quietly event may premised given same =
      leads event [] may premised
      (subst (AllByRecursion (λ entry. IsUsed (with_ids ids number now) entry.call)) (sym same)
      (still_used (given_later mine now None within given)))
      (subst (λ history. IsHistoryAt name (notices ++ []) history (after event).now) (sym same)
      (quiet (after event).now (not_less system.now (event_count local event + spare_events))))

  -- a call begins
  begun_used : (id : ℕ) (entry : Entry) → entry.call ≡ id → IsNextId mine id now →
      AllByRecursion (λ entry. IsUsed (with_ids ids number now) entry.call) (system.history ++ entry ∷ [])
  begun_used id entry same next =
      all_append (λ (e : Entry). IsUsed (with_ids ids number now) e.call) system.history (entry ∷ [])
      (still_used (next_later mine now id next))
      (subst (IsUsed (with_ids ids number now)) (sym same) (used_now ids number mine now id own next), tt)

  free : (id : ℕ) → IsNextId mine id now → AllByRecursion (λ entry. entry.call ≡ id → ⊥) system.history
  free id next = next_free ids number mine now id own next system.history follows.used

  begun_told : (id : ℕ) (entry : Entry) → entry.call ≡ id → IsNextId mine id now →
      AreTold name notices (system.history ++ entry ∷ [])
  begun_told id entry same next place ended at =
      still_told system.history entry ended (follows.history.told place ended at)
      (subst (λ i. AllByRecursion (λ (e : Entry). e.call ≡ i → ⊥) system.history) (sym same) (free id next))

  not_told : (notice : Notice) → ((ended : Ended) → Some notice ≡ Some (Notice.Tells name ended) → ⊥) → (history : List Entry) →
      AreTold name (notice ∷ []) history
  not_told notice never history zero ended at = absurd (never ended at)
  not_told notice never history (suc place) ended at = absurd (cc)

  begins : (id : ℕ) (notice : Notice) (entry : Entry) (later : ℕ) → entry.call ≡ id → IsNextId mine id now →
      IsBegunAs name notice entry → entry.called ≡ suc system.now → entry.answered ≡ None → suc system.now ≤ later →
      IsSeenAt name (notices ++ notice ∷ []) (system.history ++ entry ∷ []) later
  begins id notice entry later same next begun called unanswered within =
      seen_begun name notices notice system.history entry system.now later follows.history.seen begun (omega arith)
      (omega arith) unanswered
      (subst (λ i. AllByRecursion (λ (e : Entry). e.call ≡ i → ⊥) system.history) (sym same) (free id next))

  -- the client of an open call is told its answer
  module _ (id : ℕ) (call : NodeCall) (open_here : open_call local.calls id ≡ Some call) (ended : Ended)
      (answers : IsAnswerTo call ended) where
    abbrev told_history : List Entry
    told_history = map (told_entry ended (suc system.now)) system.history

    told_used : AllByRecursion (λ entry. IsUsed (with_ids ids number now) entry.call) system.history →
        AllByRecursion (λ entry. IsUsed (with_ids ids number now) entry.call) told_history
    told_used used =
        all_map (λ (entry : Entry). IsUsed (with_ids ids number now) entry.call) (told_entry ended (suc system.now))
        (λ entry u. used_told (with_ids ids number now) ended (suc system.now) entry u) system.history used

    has : HasEntry system.history call
    has = open_entry fragment system number id call follows.reached open_here

    one_told : AreTold name (Notice.Tells name ended ∷ []) told_history
    one_told zero other at =
        let equal : ended ≡ other = ap (λ (o : Option Notice). ended_in o other) at in
        subst (IsToldIn told_history) equal (now_told system.history call ended (suc system.now) has answers)
    one_told (suc place) other at = absurd (cc)

    told_at : (later : ℕ) → suc system.now ≤ later → IsHistoryAt name (notices ++ Notice.Tells name ended ∷ []) told_history later
    told_at later within =
        let time = suc system.now in
        history_push name notices (Notice.Tells name ended) system.history system.now time later
        ((names_decided name name).1 refl) (omega arith) within follows.history
        (λ place other at. let was = follows.history.told place other at in
        later_told ended time other (λ same. open_apart system.history call other was has (same ∙ answers.same_id)) system.history was)
        one_told
        (seen_answered name notices system.history call ended system.now time later follows.history.seen has answers (omega arith) within)

  -- these notices more, and the history with which they lead on
  abbrev LeadOn : (history : List Entry) → (seen : List Notice) → (later : ℕ) → Type 0
  LeadOn history seen later =
      AllByRecursion (λ entry. IsUsed (with_ids ids number now) entry.call) history × IsHistoryAt name (notices ++ seen) history later

  -- a call is answered
  answered : (id : ℕ) (o : Option NodeCall) → open_call local.calls id ≡ o →
      AllByRecursion (λ entry. IsUsed (with_ids ids number now) entry.call) system.history →
      LeadOn (with_answer o (suc system.now) system.history) (map (Notice.Tells name) (told_if o)) (system.now + (1 + spare_events))
  answered id None e used = (used, quiet (system.now + (1 + spare_events)) (omega arith))
  answered id (Some call) e used =
      let answers = answer_of call in
      subst (λ history. LeadOn history (Notice.Tells name (told_of call) ∷ []) (system.now + (1 + spare_events)))
      (sym (told_answer call (suc system.now) system.history)) (
        told_used id call e (told_of call) answers used,
        told_at id call e (told_of call) answers (system.now + (1 + spare_events)) (omega arith),
      )

  -- a call ends early
  ended_early : (id : ℕ) (value : Option (List ℕ)) (o : Option NodeCall) → open_call local.calls id ≡ o →
      AllByRecursion (λ entry. IsUsed (with_ids ids number now) entry.call) system.history →
      LeadOn (with_early_answer o value (suc system.now) system.history) (map (Notice.Tells name) (told_early_if o value))
      (system.now + (2 + spare_events))
  ended_early id value None e used = (used, quiet (system.now + (2 + spare_events)) (omega arith))
  ended_early id value (Some call) e used =
      let ended = told_early call value in
      let answers = early_of call value in
      (told_used id call e ended answers used, told_at id call e ended answers (system.now + (2 + spare_events)) (omega arith))

  pub acted : (event : LocalEvent) → MayHappenHere fragment local event → IsEventLetterKnown letters name event →
      IsEventAllowed number (system.files number).mover event → IsGiven mine (begun_id event) now →
      Leads fragment name system number (done_here fragment local event).local (with_ids ids number now)
      (letters ++ with_names name (done_here fragment local event).sent) (notices ++ noticed name local event)
  acted (LocalEvent.BeginRead id) may fed allowed given =
      let time = suc system.now in
      let later = (after (LocalEvent.BeginRead id)).now in
      let within : time ≤ later = one_more system.now (local.start * most_events) in
      let entry = begun_entry id Read time in
      leads (LocalEvent.BeginRead id) (Notice.Reads name id ∷ []) may (free id given) (begun_used id entry refl given)
      (history_push name notices (Notice.Reads name id) system.history system.now time later
      ((names_decided name name).1 refl) (omega arith) within follows.history (begun_told id entry refl given)
      (not_told (Notice.Reads name id) (λ ended e. absurd (cc)) (system.history ++ entry ∷ []))
      (begins id (Notice.Reads name id) entry later refl given (refl, refl, refl) refl refl within))
  acted (LocalEvent.BeginWrite id value) may fed allowed given =
      let time = suc system.now in
      let later = (after (LocalEvent.BeginWrite id value)).now in
      let within : time ≤ later = one_more system.now (local.start * most_events) in
      let entry = begun_entry id (Write value) time in
      leads (LocalEvent.BeginWrite id value) (Notice.Writes name id value ∷ []) may (free id given) (begun_used id entry refl given)
      (history_push name notices (Notice.Writes name id value) system.history system.now time later
      ((names_decided name name).1 refl) (omega arith) within follows.history (begun_told id entry refl given)
      (not_told (Notice.Writes name id value) (λ ended e. absurd (cc)) (system.history ++ entry ∷ []))
      (begins id (Notice.Writes name id value) entry later refl given (refl, refl, refl, refl) refl refl within))
  acted (LocalEvent.BeginMove id layout) may fed allowed given =
      let time = suc system.now in
      let later = (after (LocalEvent.BeginMove id layout)).now in
      let within : time ≤ later = one_more system.now 0 in
      let entry = begun_entry id Move time in
      leads (LocalEvent.BeginMove id layout) (Notice.Moves name id layout ∷ []) may (free id given, allowed)
      (begun_used id entry refl given)
      (history_push name notices (Notice.Moves name id layout) system.history system.now time later
      ((names_decided name name).1 refl) (omega arith) within follows.history (begun_told id entry refl given)
      (not_told (Notice.Moves name id layout) (λ ended e. absurd (cc)) (system.history ++ entry ∷ []))
      (begins id (Notice.Moves name id layout) entry later refl given (refl, refl, refl) refl refl within))
  acted (LocalEvent.Advance id) may fed allowed given = quietly (LocalEvent.Advance id) may tt given refl
  acted (LocalEvent.Serve letter) may fed allowed given = quietly (LocalEvent.Serve letter) may (follows.posted letter fed) given refl
  acted (LocalEvent.Take letter) may fed allowed given = quietly (LocalEvent.Take letter) may (follows.posted letter fed) given refl
  acted (LocalEvent.Settle id value) may fed allowed given = quietly (LocalEvent.Settle id value) may tt given refl
  acted (LocalEvent.GiveUp id) may fed allowed given = quietly (LocalEvent.GiveUp id) may tt given refl
  acted (LocalEvent.Close position) may fed allowed given = quietly (LocalEvent.Close position) may tt given refl
  acted (LocalEvent.Grow id) may fed allowed given = quietly (LocalEvent.Grow id) may tt given refl
  acted (LocalEvent.ReadOn id) may fed allowed given = quietly (LocalEvent.ReadOn id) may tt given refl
  acted (LocalEvent.BeginAnew id) may fed allowed given = quietly (LocalEvent.BeginAnew id) may tt given refl
  acted (LocalEvent.Query id) may fed allowed given = quietly (LocalEvent.Query id) may tt given refl
  acted (LocalEvent.Raise position) may fed allowed given = quietly (LocalEvent.Raise position) may tt given refl
  acted (LocalEvent.Hear letter) may fed allowed given = quietly (LocalEvent.Hear letter) may (follows.posted letter fed) given refl
  acted (LocalEvent.Redirect letter) may fed allowed given = quietly (LocalEvent.Redirect letter) may (follows.posted letter fed) given refl
  acted (LocalEvent.Answer id) may fed allowed given =
      let on = answered id (open_call local.calls id) refl (still_used (given_later mine now None within given)) in
      leads (LocalEvent.Answer id) (map (Notice.Tells name) (told_if (open_call local.calls id))) may tt on.0 on.1
  acted (LocalEvent.EndEarly id value) may fed allowed given =
      let on = ended_early id value (open_call local.calls id) refl (still_used (given_later mine now None within given)) in
      leads (LocalEvent.EndEarly id value) (map (Notice.Tells name) (told_early_if (open_call local.calls id) value)) may tt on.0 on.1
