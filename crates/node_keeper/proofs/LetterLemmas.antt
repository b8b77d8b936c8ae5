-- Letters that come, and calls that are given up, as what a node does.
use Rattle.std.proofs.Common.{◌≡◌, inl, inr, ℕ, Bool, true, false, cond, List, [], ◌∷◌, ◌++◌, map}
use Rattle.std.proofs.Common.{Option, None, Some, option_to_list, refl, sym, ap, ◌∙◌}
use Rattle.std.proofs.lemmas.List.{append-nil}
use Rattle.std.specs.List.{AllByRecursion}
use Rattle.local_object.specs.declared.progress.Ended.{Ended}
use Rattle.local_object.specs.Changing.{IsUnchangedBy, is_changed_by}
use Rattle.local_object.specs.Doing.{give_up_events, has_move_open, is_taken, serve_events}
use Rattle.deeds.specs.Deeds.{Notice as Seen}
use Rattle.recoveries.specs.Copies.{IsHeeded, IsLogged}
use Rattle.recoveries.specs.Records.{LogRecord}
use Rattle.recoveries.proofs.LoggedIdLemmas.{TellsNoId}
use Rattle.recoveries.proofs.LoggedLemmas.{given_up_unlogged, served_logged, taken_logged, taken_unlogged, unchanged_unlogged}
use Rattle.node_keeper.specs.Doing.{IsOutcomeAt}
use Rattle.node_keeper.specs.Objects.{objects_of}
use Rattle.node_effects.specs.Seen.{all_seen, named_of}
use Rattle.node_effects.specs.Work.{both_grown, log_all, no_growth}
use Rattle.letter.specs.declared.letter.NamedLetter.{NamedLetter}
use Rattle.node_effects.specs.declared.work.Work.{Work}
use Rattle.node_effects.proofs.GrowthLemmas.{grown_none}
use Rattle.node_keeper.specs.Acts.{Acts, logged_growth}
use Rattle.node_keeper.specs.Delivering.{ServesRequest, TakesReply, served_records, taken_records, tell_growth, notices_of}
use Rattle.node_keeper.specs.Fitting.{IsLoggable}
use Rattle.node_keeper.specs.Keeping.{kept_of}
use Rattle.node_keeper.specs.Logging.{IsReadBack, log_entry_of}
use Rattle.node_keeper.specs.Sendings.{asked, member_or, reply_sendings, sent_growth}
use Rattle.node_keeper.specs.declared.keeper.Keeper.{Keeper}
use Rattle.node_keeper.proofs.ActLemmas.{AreFew}
use Rattle.node_keeper.proofs.DoneLemmas.{done_of, taken_by}
use Rattle.node_keeper.proofs.QuietLemmas.{give_up_fed, give_up_none, give_up_told, quiet_acts}
use Rattle.node_keeper.proofs.QuietLemmas.{serve_fed, serve_none, serve_told}
use Rattle.node_keeper.proofs.ReadLemmas.{serve_read, take_read}
use Rattle.node_keeper.proofs.RequestLemmas.{all_reply, done_asks}
use Rattle.node_keeper.proofs.SendingLemmas.{asked_addressed, going_letters, replied_addressed}
use Rattle.node_keeper.proofs.TakenLemmas.{taken_quietly}

pub few_of : (b : Bool) (one : LogRecord) → AreFew (cond b (one ∷ []) [])
few_of true one = inr (one, refl)
few_of false one = inl refl

-- a record that can go to the log, if it does, is read back
pub read_if : (digest : List ℕ) (one : LogRecord) → (IsLoggable digest one → IsReadBack digest one) → (b : Bool) →
    AllByRecursion (IsLoggable digest) (cond b (one ∷ []) []) → AllByRecursion (IsReadBack digest) (cond b (one ∷ []) [])
read_if digest one reads true fits = (reads fits.0, tt)
read_if digest one reads false fits = tt

-- a record that tells of no id
pub idless_if : (one : LogRecord) → TellsNoId one → (b : Bool) → AllByRecursion TellsNoId (cond b (one ∷ []) [])
idless_if one none true = (none, tt)
idless_if one none false = tt

-- a request is served
module _ (asker : ℕ) (it : NamedLetter) (old new : Keeper) (before after : Work) where
  serve_needs : IsHeeded (kept_of old) it.name it.letter → ServesRequest asker it old before new after →
      (is_changed_by (objects_of old.objects it.name) it.letter ≡ false →
      IsUnchangedBy (objects_of old.objects it.name) it.letter) →
      (b : Bool) → is_changed_by (objects_of old.objects it.name) it.letter ≡ b →
      IsLogged (kept_of old) (cond b (LogRecord.Serves it.name it.letter ∷ []) []) (kept_of new)
  serve_needs heeded serves unchanged true is =
      served_logged (kept_of old) (kept_of new) it.name it.letter heeded (done_of old new it.name
      (serve_events (objects_of old.objects it.name) it.letter) serves.replies serves.rest.file serves.rest.ids serves.done)
  serve_needs heeded serves unchanged false is =
      unchanged_unlogged (kept_of old) (kept_of new) it.name it.letter heeded (unchanged is) (done_of old new it.name
      (serve_events (objects_of old.objects it.name) it.letter) serves.replies serves.rest.file serves.rest.ids serves.done)

  pub served_acts : ServesRequest asker it old before new after → IsHeeded (kept_of old) it.name it.letter →
      (is_changed_by (objects_of old.objects it.name) it.letter ≡ false →
      IsUnchangedBy (objects_of old.objects it.name) it.letter) → Acts asker (named_of it ∷ []) old before new after
  served_acts serves heeded unchanged =
      let local = objects_of old.objects it.name in
      let changes = is_changed_by local it.letter in
      let records = served_records old it in
      let sends = reply_sendings asker it.name serves.replies in
      quiet_acts asker (named_of it ∷ []) old new before after it.name (serve_events local it.letter) serves.done.local
      serves.replies records serves.rest.file serves.rest.digest serves.rest.ids serves.done.done serves.done.changed
      (serve_fed it.name it.letter local) (serve_none it.name it.letter local)
      (few_of changes (LogRecord.Serves it.name it.letter)) (serve_needs heeded serves unchanged changes refl)
      (record {
        sends = sends;
        growth = both_grown (logged_growth old.digest records) (sent_growth old.ids.node old.digest sends);
        grown = serves.grown;
        outputs = refl;
        read = read_if old.digest (LogRecord.Serves it.name it.letter) (serve_read old.digest it) changes
            serves.fits.logged;
        idless = idless_if (LogRecord.Serves it.name it.letter) (refl, refl) changes;
        sent = serves.fits.sent;
        own = refl;
        addressed = replied_addressed old.ids.node asker it.name it.letter serves.replies
            (all_reply local serves.done.local it.letter serves.replies serves.done.done);
        those = going_letters (λ letter. asker) it.name serves.replies;
        told = sym (ap (map (Seen.Tells it.name)) (serve_told it.name it.letter local));
      })

told_seen : (name : List ℕ) (ended : Option Ended) → all_seen (notices_of name ended) ≡ map (Seen.Tells name) (option_to_list ended)
told_seen name None = refl
told_seen name (Some ended) = refl

-- a reply is taken
module _ (it : NamedLetter) (old new : Keeper) (before after : Work) (ended : Option Ended) where
  take_needs : IsHeeded (kept_of old) it.name it.letter → TakesReply it old before new after ended →
      (b : Bool) → has_move_open (objects_of old.objects it.name) it.letter.message.call ≡ b →
      IsLogged (kept_of old) (cond b (LogRecord.Takes it.name it.letter ∷ []) []) (kept_of new)
  take_needs heeded takes true is =
      taken_logged (kept_of old) (kept_of new) it.name it.letter is
      (taken_by old new it.name it.letter takes.letters (option_to_list ended) takes.rest.file takes.rest.ids takes.done)
  take_needs heeded takes false is =
      taken_unlogged (kept_of old) (kept_of new) it.name it.letter heeded is
      (taken_by old new it.name it.letter takes.letters (option_to_list ended) takes.rest.file takes.rest.ids takes.done)

  pub taken_acts : TakesReply it old before new after ended → IsHeeded (kept_of old) it.name it.letter → (asker : ℕ) →
      Acts asker (named_of it ∷ []) old before new after
  taken_acts takes heeded asker =
      let local = objects_of old.objects it.name in
      let moves = has_move_open local it.letter.message.call in
      let records = taken_records old it in
      let sends = asked old.ids.node it.name takes.letters in
      let sending = sent_growth old.ids.node old.digest sends in
      let quiet = taken_quietly it.name it.letter (is_taken local it.letter) local takes.done.local takes.letters
      (option_to_list ended) takes.done.taken in
      quiet_acts asker (named_of it ∷ []) old new before after it.name quiet.events takes.done.local takes.letters records
      takes.rest.file takes.rest.digest takes.rest.ids quiet.done takes.done.changed quiet.fed quiet.none
      (few_of moves (LogRecord.Takes it.name it.letter)) (take_needs heeded takes moves refl)
      (record {
        sends = sends;
        growth = both_grown (logged_growth old.digest records) (both_grown sending (tell_growth it.name ended));
        grown = takes.grown;
        outputs = ap (λ xs. log_all (map (log_entry_of old.digest) records) ++ xs) (append-nil sending.outputs);
        read = read_if old.digest (LogRecord.Takes it.name it.letter) (take_read old.digest it) moves
            takes.fits.logged;
        idless = idless_if (LogRecord.Takes it.name it.letter) (refl, refl) moves;
        sent = takes.fits.sent;
        own = append-nil sending.own;
        addressed = asked_addressed old.ids.node asker (named_of it ∷ []) it.name takes.letters
            (done_asks local takes.done.local quiet.events takes.letters quiet.done quiet.asks);
        those = going_letters (member_or old.ids.node) it.name takes.letters;
        told = told_seen it.name ended ∙ ap (map (Seen.Tells it.name)) quiet.told;
      })

-- a call is given up
pub given_up_acts : (asker : ℕ) (old new : Keeper) (work : Work) (name : List ℕ) (id : ℕ) → new.file ≡ old.file →
    new.digest ≡ old.digest → new.ids ≡ old.ids →
    IsOutcomeAt old.objects name (give_up_events (objects_of old.objects name) id) new.objects [] →
    Acts asker [] old work new work
given_up_acts asker old new work name id file digest ids done =
    let local = objects_of old.objects name in
    quiet_acts asker [] old new work work name (give_up_events local id) done.local [] [] file digest ids done.done done.changed
    (give_up_fed [] name id local) (give_up_none [] name id local) (inl refl)
    (given_up_unlogged (kept_of old) (kept_of new) name id (done_of old new name (give_up_events local id) [] file ids done))
    (record {
      sends = [];
      growth = no_growth;
      grown = grown_none work;
      outputs = refl;
      read = tt;
      idless = tt;
      sent = tt;
      own = refl;
      addressed = tt;
      those = refl;
      told = sym (ap (map (Seen.Tells name)) (give_up_told [] name id local));
    })
