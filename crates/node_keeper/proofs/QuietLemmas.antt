-- Letters that are served, calls that go on or are given up, and banks whose pointers are raised or that are closed, as what
-- a node does.
use Rattle.std.proofs.Common.{◌≡◌, ℕ, Bool, true, false, cond, List, [], ◌∷◌, ◌++◌, map}
use Rattle.std.proofs.Common.{is_some, refl, sym, subst, ap}
use Rattle.std.specs.List.{AllByRecursion}
use Rattle.encoder.specs.Fragment.{fragment}
use Rattle.deeds.specs.CallId.{CallIds}
use Rattle.open_calls.specs.OpenCalls.{open_call}
use Rattle.letter.specs.declared.letter.Letter.{Letter}
use Rattle.local_object.specs.Doing.{IsOutcome, can_close, close_events, give_up_events, gives_up, is_askable, is_sent_back}
use Rattle.local_object.specs.Doing.{is_served, serve_events, stray_events}
use Rattle.local_object.specs.Ended.{all_told}
use Rattle.local_object.specs.Events.{LocalEvent}
use Rattle.local_object.specs.Local.{LocalObject}
use Rattle.local_object.specs.Passed.{can_raise, raise_events}
use Rattle.local_object.specs.ReadingOn.{read_on_events, reads_on}
use Rattle.deeds.specs.Deeds.{Notice as Seen}
use Rattle.deeds.specs.Ids.{IsLater}
use Rattle.deeds.specs.May.{IsEventLetterKnown}
use Rattle.deeds.specs.Named.{NamedLetter as Named, with_names}
use Rattle.deeds.proofs.IdLemmas.{later_same}
use Rattle.open_calls.proofs.ListLemmas.{all_append}
use Rattle.deeds.proofs.MethodLemmas.{BeginsNone, if_all, quiet_handled}
use Rattle.recoveries.specs.Copies.{IsLogged}
use Rattle.recoveries.specs.Records.{LogRecord}
use Rattle.recoveries.specs.Stops.{logged_first}
use Rattle.recoveries.proofs.LoggedIdLemmas.{TellsNoId, none_logged}
use Rattle.node_keeper.specs.Objects.{IsChangedAt, objects_of}
use Rattle.node_effects.specs.Seen.{all_seen}
use Rattle.node_effects.specs.Work.{Growth, IsGrown, log_all, send_all}
use Rattle.node_effects.specs.declared.work.Work.{Work}
use Rattle.node_keeper.specs.Acts.{Acts}
use Rattle.node_keeper.specs.Fitting.{IsSendable}
use Rattle.node_keeper.specs.Keeping.{kept_of}
use Rattle.node_keeper.specs.Logging.{IsReadBack, log_entry_of}
use Rattle.node_keeper.specs.Sendings.{IsDirected, Sending, letters_of, posted, to_itself}
use Rattle.node_keeper.specs.declared.keeper.Keeper.{Keeper}
use Rattle.node_keeper.proofs.ActLemmas.{AreFew, acts_in_order, few_safe, safe_as}
use Rattle.node_keeper.proofs.DoneLemmas.{file_same}
use Rattle.node_keeper.proofs.RequestLemmas.{ServesNone}

-- the parts of what a node does that say what goes out, what the log gets, and what clients see
pub record GoesOut (asker : ℕ) (got : List Named) (keeper : Keeper) (before after : Work) (records : List LogRecord) (letters : List Named)
    (seen : List Seen) : Type 0 where
  pub sends : List Sending
  pub growth : Growth
  pub grown : IsGrown before after growth
  pub outputs : growth.outputs ≡
      log_all (map (log_entry_of keeper.digest) records) ++ send_all (posted keeper.ids.node keeper.digest sends)
  pub read : AllByRecursion (IsReadBack keeper.digest) records
  pub idless : AllByRecursion TellsNoId records
  pub sent : AllByRecursion (IsSendable keeper.ids.node keeper.digest) sends
  pub own : growth.own ≡ to_itself keeper.ids.node sends
  pub addressed : AllByRecursion (IsDirected keeper.ids.node asker got) sends
  pub those : letters_of sends ≡ letters
  pub told : all_seen growth.notices ≡ seen

-- events at the object of a name that begin no call
pub quiet_acts : (asker : ℕ) (got : List Named) (old new : Keeper) (before after : Work) (name : List ℕ)
    (events : List LocalEvent) (local : LocalObject) (letters : List Letter) (records : List LogRecord) →
    new.file ≡ old.file → new.digest ≡ old.digest → new.ids ≡ old.ids →
    IsOutcome (objects_of old.objects name) events local letters → IsChangedAt old.objects name local new.objects →
    AllByRecursion (IsEventLetterKnown got name) events → AllByRecursion BeginsNone events → AreFew records →
    IsLogged (kept_of old) records (kept_of new) → GoesOut asker got old before after records (with_names name letters)
    (map (Seen.Tells name) (all_told fragment (objects_of old.objects name) events)) → Acts asker got old before new after
quiet_acts asker got old new before after name events local letters records file digest ids done changed fed none few logged out =
    let tells = map (Seen.Tells name) (all_told fragment (objects_of old.objects name) events) in
    acts_in_order asker got old new before after (record {
      sends = out.sends;
      records = records;
      growth = out.growth;
      grown = out.grown;
      outputs = out.outputs;
      read = out.read;
      sent = out.sent;
      own = out.own;
      addressed = out.addressed;
      ids = none_logged old.ids new.ids records out.idless ids;
      handled = λ within. safe_as (kept_of old) got (logged_first records (with_names name letters))
          (logged_first records (letters_of out.sends)) (kept_of new) tells (all_seen out.growth.notices)
          (few_safe (kept_of old) got records (kept_of new) (with_names name letters) tells few within
          (quiet_handled (kept_of old) got name events local letters (kept_of new) done fed none
          (subst (λ after. IsLater old.ids after) (sym ids) (later_same old.ids within))
          (file_same old new file changed.settings) changed.objects) logged)
          (ap (λ xs. logged_first records xs) out.those) out.told;
      node = ap (λ (i : CallIds). i.node) ids;
      digest = digest;
    })

-- clients are told nothing of an event that tells them nothing, whether it is done or not
untold_if : (local : LocalObject) (event : LocalEvent) → all_told fragment local (event ∷ []) ≡ [] → (b : Bool) →
    all_told fragment local (cond b (event ∷ []) []) ≡ []
untold_if local event untold true = untold
untold_if local event untold false = refl

-- Serving

module _ (name : List ℕ) (letter : Letter) (local : LocalObject) where
  abbrev got : List Named
  got = record { name = name; letter = letter } ∷ []

  -- what is true of serving the letter, of hearing of it and of sending it back
  served_all : (P : LocalEvent → Type 0) → P (LocalEvent.Serve letter) → P (LocalEvent.Hear letter) →
      P (LocalEvent.Redirect letter) → AllByRecursion P (serve_events local letter)
  served_all P serves hears back = go (is_served local letter) (is_askable letter)
    where
      go : (served askable : Bool) →
          AllByRecursion P (cond served (LocalEvent.Serve letter ∷ []) (cond askable (stray_events local letter) []))
      go true askable = (serves, tt)
      go false true =
          all_append P (cond (is_some letter.start) (LocalEvent.Hear letter ∷ []) [])
          (cond (is_sent_back local letter) (LocalEvent.Redirect letter ∷ []) [])
          (if_all P (LocalEvent.Hear letter) (is_some letter.start) hears)
          (if_all P (LocalEvent.Redirect letter) (is_sent_back local letter) back)
      go false false = tt

  pub serve_fed : AllByRecursion (IsEventLetterKnown got name) (serve_events local letter)
  serve_fed = served_all (IsEventLetterKnown got name) (0, refl) (0, refl) (0, refl)

  pub serve_none : AllByRecursion BeginsNone (serve_events local letter)
  serve_none = served_all BeginsNone refl refl refl

  stray_told : (hears back : Bool) → all_told fragment local
      (cond hears (LocalEvent.Hear letter ∷ []) [] ++ cond back (LocalEvent.Redirect letter ∷ []) []) ≡ []
  stray_told true true = refl
  stray_told true false = refl
  stray_told false true = refl
  stray_told false false = refl

  pub serve_told : all_told fragment local (serve_events local letter) ≡ []
  serve_told = go (is_served local letter) (is_askable letter)
    where
      go : (served askable : Bool) → all_told fragment local
          (cond served (LocalEvent.Serve letter ∷ []) (cond askable (stray_events local letter) [])) ≡ []
      go true askable = refl
      go false true = stray_told (is_some letter.start) (is_sent_back local letter)
      go false false = refl

-- Giving up

module _ (got : List Named) (name : List ℕ) (id : ℕ) (local : LocalObject) where
  pub give_up_fed : AllByRecursion (IsEventLetterKnown got name) (give_up_events local id)
  give_up_fed = if_all (IsEventLetterKnown got name) (LocalEvent.GiveUp id) (gives_up local id) tt

  pub give_up_none : AllByRecursion BeginsNone (give_up_events local id)
  give_up_none = if_all BeginsNone (LocalEvent.GiveUp id) (gives_up local id) refl

  pub give_up_told : all_told fragment local (give_up_events local id) ≡ []
  give_up_told = untold_if local (LocalEvent.GiveUp id) refl (gives_up local id)

-- Going on at the object's start

module _ (got : List Named) (name : List ℕ) (id : ℕ) (local : LocalObject) where
  pub read_on_fed : AllByRecursion (IsEventLetterKnown got name) (read_on_events local id)
  read_on_fed = if_all (IsEventLetterKnown got name) (LocalEvent.ReadOn id) (reads_on local (open_call local.calls id)) tt

  pub read_on_none : AllByRecursion BeginsNone (read_on_events local id)
  read_on_none = if_all BeginsNone (LocalEvent.ReadOn id) (reads_on local (open_call local.calls id)) refl

  pub read_on_serves_none : AllByRecursion ServesNone (read_on_events local id)
  read_on_serves_none = if_all ServesNone (LocalEvent.ReadOn id) (reads_on local (open_call local.calls id)) tt

  pub read_on_told : all_told fragment local (read_on_events local id) ≡ []
  read_on_told = untold_if local (LocalEvent.ReadOn id) refl (reads_on local (open_call local.calls id))

-- Closing

module _ (got : List Named) (name : List ℕ) (position : ℕ) (local : LocalObject) where
  pub close_fed : AllByRecursion (IsEventLetterKnown got name) (close_events local position)
  close_fed = if_all (IsEventLetterKnown got name) (LocalEvent.Close position) (can_close local position) tt

  pub close_none : AllByRecursion BeginsNone (close_events local position)
  close_none = if_all BeginsNone (LocalEvent.Close position) (can_close local position) refl

  pub close_told : all_told fragment local (close_events local position) ≡ []
  close_told = untold_if local (LocalEvent.Close position) refl (can_close local position)

-- Raising

module _ (got : List Named) (name : List ℕ) (position : ℕ) (local : LocalObject) where
  pub raise_fed : AllByRecursion (IsEventLetterKnown got name) (raise_events local position)
  raise_fed = if_all (IsEventLetterKnown got name) (LocalEvent.Raise position) (can_raise local position) tt

  pub raise_none : AllByRecursion BeginsNone (raise_events local position)
  raise_none = if_all BeginsNone (LocalEvent.Raise position) (can_raise local position) refl

  pub raise_told : all_told fragment local (raise_events local position) ≡ []
  raise_told = untold_if local (LocalEvent.Raise position) refl (can_raise local position)
