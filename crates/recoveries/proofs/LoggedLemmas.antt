-- Which records a log needs of what a node does.
use Rattle.std.proofs.Common.{◌≡◌, ℕ, suc, ◌<◌, ◌+◌, ◌^◌, true, cond, List, [], ◌∷◌, Some}
use Rattle.std.proofs.Common.{refl, sym, subst, ap, ◌∙◌, arith}
use Rattle.std.proofs.lemmas.Bool.{lt-ltb}
use Rattle.deeds.specs.CallId.{CallIds, with_next_epoch}
use Rattle.encoder.specs.Fragment.{fragment}
use Rattle.local_object.specs.Agreement.{knows_all_of}
use Rattle.local_object.specs.Doing.{close_events, give_up_events, serve_events}
use Rattle.local_object.specs.Events.{LocalEvent, all_done}
use Rattle.local_object.specs.Local.{LocalObject, heard_place}
use Rattle.local_object.specs.May.{MayAllHappen}
use Rattle.local_object.specs.Passed.{can_raise, raise_events}
use Rattle.local_object.specs.ReadingOn.{read_on_events}
use Rattle.local_object.specs.Restarts.{IsKeptHere}
use Rattle.deeds.specs.Kept.{KeptNode}
use Rattle.recoveries.specs.Copies.{IsCopyOf, IsLogged}
use Rattle.recoveries.specs.Laws.{ClosesAreLogged, GivenUpNeedsNoRecord, MovesAreLogged, ReadingOnNeedsNoRecord, ReadsNeedNoRecord}
use Rattle.recoveries.specs.Laws.{RaisesAreLogged, SameNeedsNoRecord, ServedIsLogged}
use Rattle.recoveries.specs.Laws.{StartsAreLogged, TakenIsLogged, TakenNeedsNoRecord, UnchangedNeedsNoRecord, WritesNeedNoRecord}
use Rattle.recoveries.specs.Records.{IsNamedOutcome, IsKeptUnder, IsStarted, LogRecord, RecoversOne}
use Rattle.local_object.proofs.AgreementLemmas.{known_agrees}
use Rattle.recoveries.proofs.KeptCallLemmas.{IsObjectCopy}
use Rattle.recoveries.proofs.RaisedBankLemmas.{all_known, may_serve, raising_is, serving_raises}
use Rattle.recoveries.proofs.TakenReplyLemmas.{move_takes}
use Rattle.recoveries.proofs.ClientCallLemmas.{client_takes, reads_on_alone}
use Rattle.recoveries.proofs.ServedLetterLemmas.{both_serve, serves_alone}
use Rattle.recoveries.proofs.BegunCallLemmas.{given_up, move_begins, read_begins, write_begins}
use Rattle.recoveries.proofs.ClosedBankLemmas.{both_close}
use Rattle.recoveries.proofs.NodeCopyLemmas.{Moves, object_copy, put_alone, put_both, same_both, same_self}

-- one record is carried out again
one_record : (old new : KeptNode) (first : LogRecord) → ((copy copied : KeptNode) → IsCopyOf old copy → RecoversOne first copy copied →
    IsCopyOf new copied) → IsLogged old (first ∷ []) new
one_record old new first each copy copied is recovers =
    same_both new new recovers.0 copied (each copy recovers.0 is recovers.1) (same_self new) recovers.2

-- where an object keeps what comes of these events, it is the same to say what it keeps
done_put : (old : KeptNode) (name : List ℕ) (events : List LocalEvent) (new : KeptNode) → IsNamedOutcome old name events new →
    IsKeptUnder old name (all_done fragment (old.objects name) events).local new
done_put old name events new done = subst (λ l. IsKeptUnder old name l new) done.done.local done.put

done_alone : (old new : KeptNode) (name : List ℕ) (events : List LocalEvent) → IsNamedOutcome old name events new →
    ((copy : LocalObject) → IsObjectCopy (Moves old) (old.objects name) copy →
    IsObjectCopy (Moves old) (all_done fragment (old.objects name) events).local copy) → IsLogged old [] new
done_alone old new name events done each copy copied is same =
    put_alone old new copy copied name (all_done fragment (old.objects name) events).local is (done_put old name events new done) same
    (each (copy.objects name) (object_copy old copy is name))

-- Epochs

pub begun_within : (ids : CallIds) → suc ids.epoch < 2 ^ 24 →
    with_next_epoch ids ≡ record { node = ids.node; epoch = suc ids.epoch; given = 0 }
begun_within ids more =
    ap (λ b. cond b (record ids { epoch = suc ids.epoch; given = 0 }) ids) (lt-ltb (suc ids.epoch) (2 ^ 24) more)

pub started_number : (old new : KeptNode) → IsStarted old new → new.ids.node ≡ old.ids.node
started_number old new started = ap (λ (i : CallIds). i.node) (started.ids ∙ begun_within old.ids started.more)

pub started_epoch : (old new : KeptNode) → IsStarted old new → new.ids.epoch ≡ suc old.ids.epoch
started_epoch old new started = ap (λ (i : CallIds). i.epoch) (started.ids ∙ begun_within old.ids started.more)

pub started_given : (old new : KeptNode) → IsStarted old new → new.ids.given ≡ 0
started_given old new started = ap (λ (i : CallIds). i.given) (started.ids ∙ begun_within old.ids started.more)

-- what a node keeps once an epoch began is what it kept, but for the ids
abbrev in_epoch : KeptNode → CallIds → KeptNode
in_epoch node ids = record node { ids = ids }

pub starts_logged : StartsAreLogged
starts_logged old new started =
    one_record old new LogRecord.Starts
    (λ copy copied is again. same_both (in_epoch old new.ids) new (in_epoch copy copied.ids) copied
    (record {
      file = is.file;
      number = started_number copy copied again ∙ is.number ∙ sym (started_number old new started);
      epoch = started_epoch copy copied again ∙ ap suc is.epoch ∙ sym (started_epoch old new started);
      objects = λ name. at_number copy is name;
      distinct = is.distinct;
      mover = λ name moving. started_number old new started ∙ is.mover name moving;
    })
    (record { file = started.file; node = refl; epoch = refl; objects = started.objects })
    (record { file = again.file; node = refl; epoch = refl; objects = again.objects }))
  where
    at_number : (copy : KeptNode) → IsCopyOf old copy → (name : List ℕ) →
        IsKeptHere (new.ids.node ≡ old.file.mover) (old.objects name) (copy.objects name)
    at_number copy is name = let kept = is.objects name in record {
      node = kept.node;
      delta = kept.delta;
      start = kept.start;
      layouts = kept.layouts;
      first = kept.first;
      banks = kept.banks;
      reports = kept.reports;
      calls = kept.calls;
      mover = λ here. kept.mover (sym (started_number old new started) ∙ here);
    }

-- What needs a record

pub served_logged : ServedIsLogged
served_logged old new name letter heeded done =
    one_record old new (LogRecord.Serves name letter)
    (λ copy copied is again. put_both old new copy copied name
    (all_done fragment (old.objects name) (serve_events (old.objects name) letter)).local
    (all_done fragment (copy.objects name) (serve_events (copy.objects name) letter)).local is
    (done_put old name (serve_events (old.objects name) letter) new done)
    (done_put copy name (serve_events (copy.objects name) letter) copied again)
    (both_serve (Moves old) (old.objects name) (copy.objects name) (object_copy old copy is name) letter heeded.agrees
    heeded.lawful))

-- a pointer that is raised is one that a letter asks the node to raise
pub raised_logged : RaisesAreLogged
raised_logged old new name position letter e room lawful done =
    let local = old.objects name in
    let is = raising_is local position letter e in
    let place = is.place in
    let found : heard_place local.places place.position ≡ Some place = ap (heard_place local.places) is.at ∙ is.found in
    let here : place.position + 1 < 2 ^ 32 = let at = is.at in omega (arith, at, room) in
    let known : knows_all_of local letter ≡ true =
    ap (knows_all_of local) is.is ∙ all_known local place found is.member in
    served_logged old new name letter (record {
      lawful = lawful;
      agrees = known_agrees local letter known;
      mover = λ mover. known;
    }) (record {
      local = done.local;
      sent = (all_done fragment local (serve_events local letter)).sent;
      done = record {
        may = subst (λ l. MayAllHappen fragment local (serve_events local l)) (sym is.is)
            (may_serve local place found is.member is.named here);
        local = done.done.local
            ∙ ap (λ p. (all_done fragment local (raise_events local p)).local) (sym is.at)
            ∙ sym (serving_raises local place found is.member is.named here (ap (can_raise local) is.at ∙ is.can))
            ∙ ap (λ l. (all_done fragment local (serve_events local l)).local) (sym is.is);
        letters = refl;
      };
      put = done.put;
    })

pub taken_logged : TakenIsLogged
taken_logged old new name letter move taken =
    one_record old new (LogRecord.Takes name letter)
    (λ copy copied is again. put_both old new copy copied name taken.local again.local is taken.put again.put
    (move_takes (Moves old) (old.objects name) (copy.objects name) (object_copy old copy is name) letter move
    taken.local again.local taken.sent again.sent taken.ended again.ended taken.taken again.taken))

pub moves_logged : MovesAreLogged
moves_logged old new name id layout here free done =
    one_record old new (LogRecord.Moves name id layout)
    (λ copy copied is again. put_both old new copy copied name
    (all_done fragment (old.objects name) (LocalEvent.BeginMove id layout ∷ [])).local
    (all_done fragment (copy.objects name) (LocalEvent.BeginMove id layout ∷ [])).local is
    (done_put old name (LocalEvent.BeginMove id layout ∷ []) new done)
    (done_put copy name (LocalEvent.BeginMove id layout ∷ []) copied again)
    (move_begins (Moves old) here (old.objects name) (copy.objects name) (object_copy old copy is name) id layout free))

pub closes_logged : ClosesAreLogged
closes_logged old new name position done =
    one_record old new (LogRecord.Closes name position)
    (λ copy copied is again. put_both old new copy copied name
    (all_done fragment (old.objects name) (close_events (old.objects name) position)).local
    (all_done fragment (copy.objects name) (close_events (copy.objects name) position)).local is
    (done_put old name (close_events (old.objects name) position) new done)
    (done_put copy name (close_events (copy.objects name) position) copied again)
    (both_close (Moves old) (old.objects name) (copy.objects name) (object_copy old copy is name) position))

-- What needs none

pub same_unlogged : SameNeedsNoRecord
same_unlogged old new same copy copied is resame = same_both old new copy copied is same resame

pub unchanged_unlogged : UnchangedNeedsNoRecord
unchanged_unlogged old new name letter heeded only done =
    done_alone old new name (serve_events (old.objects name) letter) done
    (λ copy is. serves_alone (Moves old) (old.objects name) copy is letter heeded.agrees heeded.lawful heeded.mover only)

pub taken_unlogged : TakenNeedsNoRecord
taken_unlogged old new name letter heeded no_move taken copy copied is same =
    put_alone old new copy copied name taken.local is taken.put same
    (client_takes (Moves old) (old.objects name) (copy.objects name) (object_copy old copy is name) letter heeded.mover no_move
    taken.local taken.sent taken.ended taken.taken)

pub reads_unlogged : ReadsNeedNoRecord
reads_unlogged old new name id free done =
    done_alone old new name (LocalEvent.BeginRead id ∷ []) done
    (λ copy is. read_begins (Moves old) (old.objects name) copy is id free)

pub writes_unlogged : WritesNeedNoRecord
writes_unlogged old new name id value free done =
    done_alone old new name (LocalEvent.BeginWrite id value ∷ []) done
    (λ copy is. write_begins (Moves old) (old.objects name) copy is id value free)

pub reading_on_unlogged : ReadingOnNeedsNoRecord
reading_on_unlogged old new name id done =
    done_alone old new name (read_on_events (old.objects name) id) done
    (λ copy is. reads_on_alone (Moves old) (old.objects name) copy is id)

pub given_up_unlogged : GivenUpNeedsNoRecord
given_up_unlogged old new name id done =
    done_alone old new name (give_up_events (old.objects name) id) done
    (λ copy is. given_up (Moves old) (old.objects name) copy is id)
