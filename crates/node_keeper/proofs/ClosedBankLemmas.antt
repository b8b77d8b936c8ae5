-- Banks whose pointers are raised and banks that are closed, as what a node does.
use Rattle.std.proofs.Common.{◌≡◌, ◌<◌, ◌+◌, ◌^◌, inl, inr, ℕ, Bool, true, false, cond, List, [], ◌∷◌, map, Option, None, Some}
use Rattle.std.proofs.Common.{is_some, ltb, IfSome, refl, sym, ap, ◌∙◌}
use Rattle.std.specs.List.{AllByRecursion}
use Rattle.std.proofs.lemmas.Bool.{and_parts}
use Rattle.std.proofs.lemmas.List.{append-nil}
use Rattle.encoder.specs.Fragment.{fragment}
use Rattle.letter.specs.declared.letter.Letter.{Letter}
use Rattle.local_object.specs.Doing.{can_close, close_events}
use Rattle.local_object.specs.Events.{LocalEvent, all_done}
use Rattle.local_object.specs.Local.{LocalObject, Place, bank_in, heard_place, layout_here}
use Rattle.local_object.specs.Passed.{can_raise, is_below_final, member_of, raise_events}
use Rattle.deeds.specs.CallId.{CallIds}
use Rattle.deeds.specs.Deeds.{Notice as Seen}
use Rattle.deeds.specs.Named.{with_named}
use Rattle.deeds.proofs.NameLemmas.{same_named}
use Rattle.object_letters.specs.Raising.{raising_letter, raising_to}
use Rattle.recoveries.specs.Copies.{IsLogged}
use Rattle.recoveries.specs.Records.{LogRecord}
use Rattle.recoveries.proofs.LoggedIdLemmas.{TellsNoId}
use Rattle.recoveries.proofs.LoggedLemmas.{closes_logged, raised_logged, same_unlogged}
use Rattle.node_effects.specs.Work.{log_all}
use Rattle.node_effects.specs.declared.work.Work.{Work}
use Rattle.node_keeper.specs.Acts.{Acts, logged_growth}
use Rattle.node_keeper.specs.Closing.{ClosesBank, RaisesBank, closed_records, raised_records, serving_records}
use Rattle.node_keeper.specs.Doing.{IsOutcomeAt}
use Rattle.node_keeper.specs.Fitting.{IsLoggable}
use Rattle.node_keeper.specs.Keeping.{kept_of}
use Rattle.node_keeper.specs.Logging.{IsReadBack, log_entry_of}
use Rattle.node_keeper.specs.Objects.{objects_of}
use Rattle.node_keeper.specs.declared.keeper.Keeper.{Keeper}
use Rattle.node_keeper.proofs.ActLemmas.{AreFew}
use Rattle.node_keeper.proofs.DoneLemmas.{done_of, file_same}
use Rattle.node_keeper.proofs.LetterLemmas.{few_of, idless_if, read_if}
use Rattle.node_keeper.proofs.QuietLemmas.{close_fed, close_none, close_told, quiet_acts, raise_fed, raise_none, raise_told}
use Rattle.node_keeper.proofs.ReadLemmas.{close_read, serve_read}

-- no record is needed of events that leave the object as it was
stays_unlogged : (name : List ℕ) (old new : Keeper) (events : List LocalEvent) → new.file ≡ old.file → new.ids ≡ old.ids →
    (done : IsOutcomeAt old.objects name events new.objects []) → done.local ≡ objects_of old.objects name →
    IsLogged (kept_of old) [] (kept_of new)
stays_unlogged name old new events file ids done stays =
    same_unlogged (kept_of old) (kept_of new) (record {
      file = file_same old new file done.changed.settings;
      node = ap (λ (i : CallIds). i.node) ids;
      epoch = ap (λ (i : CallIds). i.epoch) ids;
      objects = λ other. done.changed.objects other
          ∙ ap (λ l. with_named (objects_of old.objects) name l other) stays
          ∙ sym (same_named (objects_of old.objects) name other);
    })

module _ (name : List ℕ) (position : ℕ) (old new : Keeper) (before after : Work)
    (closes : ClosesBank name position old before new after) where
  -- the record is enough, if the bank can be closed; otherwise nothing changes, and none is needed
  close_needs : (b : Bool) → can_close (objects_of old.objects name) position ≡ b →
      IsLogged (kept_of old) (cond b (LogRecord.Closes name position ∷ []) []) (kept_of new)
  close_needs true is =
      closes_logged (kept_of old) (kept_of new) name position (done_of old new name
      (close_events (objects_of old.objects name) position) [] closes.file closes.ids closes.done)
  close_needs false is =
      let local = objects_of old.objects name in
      stays_unlogged name old new (close_events local position) closes.file closes.ids closes.done
      (closes.done.done.local ∙ ap (λ b. (all_done fragment local (cond b (LocalEvent.Close position ∷ []) [])).local) is)

  pub closed_acts : (asker : ℕ) → Acts asker [] old before new after
  closed_acts asker =
      let local = objects_of old.objects name in
      let one = LogRecord.Closes name position in
      let closing = can_close local position in
      let records = closed_records name local position in
      quiet_acts asker [] old new before after name (close_events local position) closes.done.local [] records closes.file
      closes.digest closes.ids closes.done.done closes.done.changed (close_fed [] name position local)
      (close_none [] name position local) (few_of closing one) (close_needs closing refl)
      (record {
        sends = [];
        growth = logged_growth old.digest records;
        grown = closes.grown;
        outputs = sym (append-nil (log_all (map (log_entry_of old.digest) records)));
        read = read_if old.digest one (close_read old.digest name position) closing closes.fits;
        idless = idless_if one (refl, refl) closing;
        sent = tt;
        own = refl;
        addressed = tt;
        those = refl;
        told = sym (ap (map (Seen.Tells name)) (close_told [] name position local));
      })

-- Pointers that are raised

-- where the node has a bank and is a member, there is such a letter
lettered : (local : LocalObject) (place : Option Place) (member : Option ℕ) → is_below_final (bank_in place) ≡ true →
    is_some member ≡ true → raising_to local place member ≡ None → ⊥
lettered local None member below some none = cc
lettered local (Some place) None below some none = cc
lettered local (Some place) (Some member) below some none = cc

-- if there is no letter with which the node asks itself to raise a pointer, it cannot raise it
unlettered : (local : LocalObject) (position : ℕ) → raising_letter local position ≡ None → can_raise local position ≡ false
unlettered local position = go (can_raise local position) refl
  where
    go : (b : Bool) → can_raise local position ≡ b →
        cond b (raising_to local (heard_place local.places position) (member_of (layout_here local position) local.node)) None ≡ None →
        b ≡ false
    go false is none = refl
    go true is none =
        let place = heard_place local.places position in
        let member = member_of (layout_here local position) local.node in
        let rest = (and_parts (ltb position local.start) _ is).1 in
        let more = (and_parts (is_below_final (bank_in place)) _ rest).1 in
        absurd (lettered local place member (and_parts (is_below_final (bank_in place)) _ rest).0
        (and_parts (is_some member) _ more).0 none)

few_served : (name : List ℕ) (letter : Option Letter) → AreFew (serving_records name letter)
few_served name None = inl refl
few_served name (Some letter) = inr (LogRecord.Serves name letter, refl)

served_read : (digest name : List ℕ) (letter : Option Letter) → AllByRecursion (IsLoggable digest) (serving_records name letter) →
    AllByRecursion (IsReadBack digest) (serving_records name letter)
served_read digest name None fits = tt
served_read digest name (Some letter) fits = (serve_read digest (record { name = name; letter = letter }) fits.0, tt)

served_idless : (name : List ℕ) (letter : Option Letter) → AllByRecursion TellsNoId (serving_records name letter)
served_idless name None = tt
served_idless name (Some letter) = ((refl, refl), tt)

module _ (name : List ℕ) (position : ℕ) (old new : Keeper) (before after : Work)
    (raises : RaisesBank name position old before new after)
    (next : IfSome (raising_letter (objects_of old.objects name) position) (λ letter. position + 1 < 2 ^ 32)) where
  -- the record is enough, if the pointer can be raised; otherwise nothing changes, and none is needed
  raise_needs : (letter : Option Letter) → raising_letter (objects_of old.objects name) position ≡ letter →
      IfSome letter (λ l. position + 1 < 2 ^ 32) → AllByRecursion (IsLoggable old.digest) (serving_records name letter) →
      IsLogged (kept_of old) (serving_records name letter) (kept_of new)
  raise_needs (Some letter) is within fits =
      raised_logged (kept_of old) (kept_of new) name position letter is within fits.0.message.layout (done_of old new name
      (raise_events (objects_of old.objects name) position) [] raises.file raises.ids raises.done)
  raise_needs None is within fits =
      let local = objects_of old.objects name in
      stays_unlogged name old new (raise_events local position) raises.file raises.ids raises.done
      (raises.done.done.local ∙ ap (λ b. (all_done fragment local (cond b (LocalEvent.Raise position ∷ []) [])).local)
      (unlettered local position is))

  pub raised_acts : (asker : ℕ) → Acts asker [] old before new after
  raised_acts asker =
      let local = objects_of old.objects name in
      let letter = raising_letter local position in
      let records = raised_records name local position in
      quiet_acts asker [] old new before after name (raise_events local position) raises.done.local [] records raises.file
      raises.digest raises.ids raises.done.done raises.done.changed (raise_fed [] name position local)
      (raise_none [] name position local) (few_served name letter) (raise_needs letter refl next raises.fits)
      (record {
        sends = [];
        growth = logged_growth old.digest records;
        grown = raises.grown;
        outputs = sym (append-nil (log_all (map (log_entry_of old.digest) records)));
        read = served_read old.digest name letter raises.fits;
        idless = served_idless name letter;
        sent = tt;
        own = refl;
        addressed = tt;
        those = refl;
        told = sym (ap (map (Seen.Tells name)) (raise_told [] name position local));
      })
