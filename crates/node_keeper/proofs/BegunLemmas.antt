-- Calls that begin, and that are asked again, as what a node does.
use Rattle.std.proofs.Common.{◌≡◌, inl, inr, ℕ, List, [], ◌∷◌, ◌++◌, map, Some, refl, sym, subst, ap, ◌∙◌}
use Rattle.std.specs.List.{AllByRecursion}
use Rattle.encoder.specs.Fragment.{fragment}
use Rattle.deeds.specs.CallId.{CallIds, after_given, next_given_id}
use Rattle.letter.specs.declared.letter.Letter.{Letter}
use Rattle.local_object.specs.Events.{LocalEvent}
use Rattle.local_object.specs.Resent.{IsResent}
use Rattle.deeds.specs.Deeds.{noticed}
use Rattle.deeds.specs.Ids.{begun_id}
use Rattle.deeds.specs.May.{IsEventAllowed}
use Rattle.deeds.specs.Named.{with_names}
use Rattle.deeds.proofs.HandledLemmas.{resent_handled}
use Rattle.deeds.proofs.IdLemmas.{later_same}
use Rattle.deeds.proofs.MethodLemmas.{begun_handled}
use Rattle.recoveries.specs.LoggedIds.{HaveLoggedIds}
use Rattle.recoveries.specs.Records.{LogRecord}
use Rattle.recoveries.proofs.LoggedIdLemmas.{TellOfId, same_epoch}
use Rattle.recoveries.specs.Stops.{logged_first}
use Rattle.node_keeper.specs.Doing.{IsOutcomeAt}
use Rattle.node_keeper.specs.Objects.{objects_of}
use Rattle.node_effects.specs.Seen.{seen_of}
use Rattle.node_effects.specs.Work.{Growth, IsGrown, both_grown, log_all, no_growth, send_all}
use Rattle.node_effects.specs.declared.notice.Notice.{Notice}
use Rattle.node_effects.specs.declared.work.Work.{Work}
use Rattle.node_effects.proofs.GrowthLemmas.{grown_then}
use Rattle.node_keeper.specs.Acts.{Acts, GivesId}
use Rattle.node_keeper.specs.Beginning.{opened_growth}
use Rattle.node_keeper.specs.Fitting.{IsSendable}
use Rattle.node_keeper.specs.Logging.{IsReadBack, log_entry_of}
use Rattle.node_keeper.specs.Keeping.{kept_of}
use Rattle.node_keeper.specs.Sendings.{IsDirected, Sending, asked, letters_of, member_or, posted, sent_growth, to_itself}
use Rattle.node_keeper.specs.declared.keeper.Keeper.{Keeper}
use Rattle.node_keeper.proofs.ActLemmas.{AreFew, acts_in_order, acts_more, acts_rest, few_safe, safe_as, same_logged}
use Rattle.node_keeper.proofs.DoneLemmas.{done_to, file_same}
use Rattle.node_keeper.proofs.EpochLemmas.{epoch_acts, in_epoch}
use Rattle.node_keeper.proofs.EventLogLemmas.{EventIsLogged}
use Rattle.node_keeper.proofs.IdLemmas.{begun_later, next_epoch, next_is_node}
use Rattle.node_keeper.proofs.RequestLemmas.{begins_serve_none, done_asks, resent_ask}
use Rattle.node_keeper.proofs.SendingLemmas.{asked_addressed, going_letters}

-- a call begins with the next id: the object of a name begins it, the log gets its record, if it needs one, clients see
-- it, and its first requests go out
next_acts : (asker : ℕ) (old new : Keeper) (before noted after : Work) (name : List ℕ) (event : LocalEvent) (id : ℕ)
    (letters : List Letter) (records : List LogRecord) (notice : Notice) → new.file ≡ old.file → new.digest ≡ old.digest →
    next_given_id old.ids ≡ Some id → new.ids ≡ after_given old.ids →
    IsOutcomeAt old.objects name (event ∷ []) new.objects letters → begun_id event ≡ Some id →
    IsEventAllowed old.ids.node old.file.fixed.mover event →
    seen_of notice ∷ [] ≡ noticed name (objects_of old.objects name) event → AreFew records →
    EventIsLogged old name event records → TellOfId id records → AllByRecursion (IsReadBack old.digest) records →
    IsGrown before noted (opened_growth old.digest records notice) →
    IsGrown noted after (sent_growth new.ids.node new.digest (asked new.ids.node name letters)) →
    AllByRecursion (IsSendable new.ids.node new.digest) (asked new.ids.node name letters) →
    Acts asker [] old before new after
next_acts asker old new before noted after name event id letters records notice file digest next given done begins allowed seen
    few logged tells read notes sent fits =
    let n = old.ids.node in
    let node : new.ids.node ≡ n = ap (λ (i : CallIds). i.node) given ∙ next_is_node old.ids in
    let epoch : new.ids.epoch ≡ old.ids.epoch = ap (λ (i : CallIds). i.epoch) given ∙ next_epoch old.ids in
    let entries = log_all (map (log_entry_of old.digest) records) in
    let seeing = opened_growth old.digest records notice in
    let sending : Growth = sent_growth new.ids.node new.digest (asked new.ids.node name letters) in
    acts_in_order asker [] old new before after (record {
      sends = asked n name letters;
      records = records;
      growth = both_grown seeing sending;
      grown = grown_then before noted after seeing sending notes sent;
      outputs = ap (λ fs. entries ++ send_all fs)
          (ap (λ m. posted m new.digest (asked m name letters)) node ∙ ap (λ d. posted n d (asked n name letters)) digest);
      read = read;
      sent = subst (λ d. AllByRecursion (IsSendable n d) (asked n name letters)) digest
          (subst (λ m. AllByRecursion (IsSendable m new.digest) (asked m name letters)) node fits);
      own = ap (λ m. to_itself m (asked m name letters)) node;
      addressed = asked_addressed n asker [] name letters
          (done_asks (objects_of old.objects name) done.local (event ∷ []) letters done.done (begins_serve_none event id begins, tt));
      ids = subst (HaveLoggedIds old.ids records) (sym given) (tells old.ids next);
      handled = λ within. safe_as (kept_of old) [] (logged_first records (with_names name letters))
          (logged_first records (letters_of (asked n name letters))) (kept_of new)
          (noticed name (objects_of old.objects name) event) (seen_of notice ∷ [])
          (few_safe (kept_of old) [] records (kept_of new) (with_names name letters) (noticed name (objects_of old.objects name) event)
          few within
          (begun_handled (kept_of old) [] name event id done.local letters (kept_of new) done.done begins allowed
          (record { now = old.ids; reached = later_same old.ids within; next = next; left = sym given })
          (file_same old new file done.changed.settings) done.changed.objects)
          (logged (kept_of old) (kept_of new) refl refl refl (done_to old new name (event ∷ []) letters file node epoch done)))
          (ap (λ xs. logged_first records xs) (going_letters (member_or n) name letters)) seen;
      node = node;
      digest = digest;
    })

module _ (asker : ℕ) (old new : Keeper) where
  -- a call begins: an id is given, and then as above
  pub begun_acts : (before given noted after : Work) (name : List ℕ) (event : LocalEvent) (id : ℕ) (letters : List Letter)
      (records : List LogRecord) (notice : Notice) → new.file ≡ old.file → new.digest ≡ old.digest →
      GivesId old.ids id new.ids before given → IsOutcomeAt old.objects name (event ∷ []) new.objects letters →
      begun_id event ≡ Some id → IsEventAllowed old.ids.node old.file.fixed.mover event →
      seen_of notice ∷ [] ≡ noticed name (objects_of old.objects name) event → AreFew records →
      EventIsLogged old name event records → TellOfId id records → AllByRecursion (IsReadBack old.digest) records →
      IsGrown given noted (opened_growth old.digest records notice) →
      IsGrown noted after (sent_growth new.ids.node new.digest (asked new.ids.node name letters)) →
      AllByRecursion (IsSendable new.ids.node new.digest) (asked new.ids.node name letters) →
      Acts asker [] old before new after
  begun_acts before given noted after name event id letters records notice file digest (inl g) done begins allowed seen few logged
      tells read notes sent fits =
      acts_more asker [] old old new before given after
      (acts_rest asker [] old before given no_growth g.2 refl refl refl)
      (next_acts asker old new given noted after name event id letters records notice file digest g.0 g.1 done begins allowed seen
      few logged tells read notes sent fits)
  begun_acts before given noted after name event id letters records notice file digest (inr g) done begins allowed seen few logged
      tells read notes sent fits =
      let middle = in_epoch old in
      let node : middle.ids.node ≡ old.ids.node = (begun_later old.ids g.0).node in
      acts_more asker [] old middle new before given after
      (epoch_acts asker old middle before given refl refl refl g.0 refl g.3)
      (next_acts asker middle new given noted after name event id letters records notice file digest g.1 g.2 done begins
      (subst (λ n. IsEventAllowed n old.file.fixed.mover event) (sym node) allowed) seen few
      (λ from to file number objects. logged from to file (number ∙ node) objects) tells read notes sent fits)

-- letters of a call's current phase go out, each to a node to which it may go
pub sent_acts : (asker : ℕ) (keeper : Keeper) (before after : Work) (name : List ℕ) (letters : List Letter) (sends : List Sending) →
    AllByRecursion (IsResent fragment (objects_of keeper.objects name)) letters → letters_of sends ≡ with_names name letters →
    AllByRecursion (IsDirected keeper.ids.node asker []) sends →
    IsGrown before after (sent_growth keeper.ids.node keeper.digest sends) →
    AllByRecursion (IsSendable keeper.ids.node keeper.digest) sends → Acts asker [] keeper before keeper after
sent_acts asker keeper before after name letters sends resent those directed sent fits =
    acts_in_order asker [] keeper keeper before after (record {
      sends = sends;
      records = [];
      growth = sent_growth keeper.ids.node keeper.digest sends;
      grown = sent;
      outputs = refl;
      read = tt;
      sent = fits;
      own = refl;
      addressed = directed;
      ids = same_epoch keeper.ids keeper.ids refl;
      handled = λ within.
          let node = kept_of keeper in
          safe_as node [] (logged_first [] (with_names name letters)) (logged_first [] (letters_of sends)) node [] []
          (few_safe node [] [] node (with_names name letters) [] (inl refl) within
          (resent_handled fragment node [] name letters (later_same keeper.ids within) resent) (same_logged node))
          (ap (λ xs. logged_first [] xs) those) refl;
      node = refl;
      digest = refl;
    })

-- a call asks again
pub resent_acts : (asker : ℕ) (keeper : Keeper) (before after : Work) (name : List ℕ) (letters : List Letter) →
    AllByRecursion (IsResent fragment (objects_of keeper.objects name)) letters →
    IsGrown before after (sent_growth keeper.ids.node keeper.digest (asked keeper.ids.node name letters)) →
    AllByRecursion (IsSendable keeper.ids.node keeper.digest) (asked keeper.ids.node name letters) →
    Acts asker [] keeper before keeper after
resent_acts asker keeper before after name letters resent sent fits =
    let n = keeper.ids.node in
    sent_acts asker keeper before after name letters (asked n name letters) resent (going_letters (member_or n) name letters)
    (asked_addressed n asker [] name letters (resent_ask (objects_of keeper.objects name) letters resent)) sent fits
