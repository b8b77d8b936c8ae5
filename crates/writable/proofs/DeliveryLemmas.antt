-- A fit keeper can write what a fit letter needs, and stays fit.
use Rattle.std.proofs.Common.{◌<◌, ◌^◌, ℕ, Bool, true, false, cond, List, [], ◌∷◌, Option, Some, None, refl, sym, subst}
use Rattle.std.specs.List.{AllByRecursion}
use Rattle.std.specs.Prelude.{option_to_list}
use Rattle.encoder.specs.Fragment.{fragment}
use Rattle.fitting.specs.Letters.{IsFitLetter}
use Rattle.fitting.specs.Objects.{IsFitObject}
use Rattle.fitting.specs.Outcomes.{IsShortEnded}
use Rattle.fitting.proofs.ArrivalLemmas.{serving_fit, serving_room}
use Rattle.fitting.proofs.EventLemmas.{events_fit}
use Rattle.fitting.proofs.TakingLemmas.{taking_fit}
use Rattle.letter.specs.declared.letter.Letter.{Letter}
use Rattle.letter.specs.declared.letter.NamedLetter.{NamedLetter}
use Rattle.local_object.specs.Changing.{after_serving, is_changed_by}
use Rattle.local_object.specs.Doing.{has_move_open, serve_events}
use Rattle.local_object.specs.Events.{all_done}
use Rattle.local_object.specs.Local.{LocalObject}
use Rattle.local_object.specs.declared.progress.Ended.{Ended}
use Rattle.mail.specs.Message.{is_request}
use Rattle.node_effects.specs.Seen.{named_of}
use Rattle.node_effects.specs.Work.{both_grown, no_growth}
use Rattle.node_effects.specs.declared.work.Work.{Work}
use Rattle.node_keeper.specs.Acts.{logged_growth}
use Rattle.node_keeper.specs.Declining.{declines}
use Rattle.node_keeper.specs.Delivering.{CanCloseAfter, CanDeliverAs, CanHandle, CanServe, CanTake, DeliversAs, HandlesAs, delivered_of}
use Rattle.node_keeper.specs.Delivering.{served_as, served_records, taken_records, tell_growth}
use Rattle.node_keeper.specs.Doing.{IsReplyOutcomeAt}
use Rattle.node_keeper.specs.Fitting.{IsLoggable}
use Rattle.node_keeper.specs.Keeping.{heeds, kept_of}
use Rattle.node_keeper.specs.Objects.{objects_of}
use Rattle.node_keeper.specs.Sendings.{asked, reply_sendings, sent_growth, to_itself}
use Rattle.node_keeper.specs.declared.delivered.Delivered.{Delivered}
use Rattle.node_keeper.specs.declared.keeper.Keeper.{Keeper}
use Rattle.node_keeper.specs.declared.objects.Objects.{Objects}
use Rattle.open_calls.proofs.ListLemmas.{all_append}
use Rattle.recoveries.specs.Records.{LogRecord}
use Rattle.writable.specs.Keepers.{IsFitKeeper, IsFitNamed, IsLeftFit}
use Rattle.writable.specs.Laws.{FitKeepersCanDeliver}
use Rattle.writable.specs.Staying.{DeliveredKeepersAreFit, TellsShort}
use Rattle.writable.proofs.ClosingLemmas.{can_close_passed, closes_fit}
use Rattle.writable.proofs.KeeperLemmas.{changed_fit, more_own, outcome_fit, rest_fit, same_own}
use Rattle.writable.proofs.SendableLemmas.{all_sendable, asked_fit, own_fit, replies_fit, serves_loggable, takes_loggable}

-- a record that goes to the log if there is a reason
logged_if : (digest : List ℕ) (it : LogRecord) → IsLoggable digest it → (b : Bool) →
    AllByRecursion (IsLoggable digest) (cond b (it ∷ []) [])
logged_if digest it fits true = (fits, tt)
logged_if digest it fits false = tt

-- what comes of a reply that was taken
record IsTakenFit (new : Objects) (sent : List Letter) (told : List Ended) : Type 0 where
  objects : (name : List ℕ) → IsFitObject (objects_of new name)
  letters : AllByRecursion IsFitLetter sent
  ended : AllByRecursion IsShortEnded told

module _ (keeper : Keeper) (it : NamedLetter) (fit : IsFitKeeper keeper) (is : IsFitNamed it) where
  abbrev local : LocalObject
  local = objects_of keeper.objects it.name

  -- the object after a request was served
  served_local : IsFitObject (after_serving local it.letter) × AllByRecursion IsFitLetter
      (all_done fragment local (serve_events local it.letter)).sent
  served_local = events_fit local (serve_events local it.letter) (fit.objects it.name) (serving_room local it.letter is.letter)

  can_serve : (asker : ℕ) → asker < 2 ^ 8 → CanServe asker it keeper
  can_serve asker node = record {
    logged = logged_if keeper.digest (LogRecord.Serves it.name it.letter) (serves_loggable keeper.digest fit.digest it is)
        (is_changed_by local it.letter);
    sent = all_sendable keeper.digest fit.digest keeper.ids.node _ (replies_fit asker it.name node is.name _ served_local.1);
  }

  taken_at : (new : Objects) (letters : List Letter) (ended : List Ended) →
      IsReplyOutcomeAt keeper.objects it.name it.letter new letters ended → IsTakenFit new letters ended
  taken_at new letters ended taken =
      let left = taking_fit local taken.local it.letter letters ended (fit.objects it.name) is.letter taken.taken in record {
        objects = changed_fit keeper.objects new it.name taken.local fit.objects left.0 taken.changed;
        letters = left.1;
        ended = left.2;
      }

  can_take : CanTake it keeper
  can_take = (
    logged_if keeper.digest (LogRecord.Takes it.name it.letter) (takes_loggable keeper.digest fit.digest it is)
        (has_move_open local it.letter.message.call),
    λ new letters ended taken. all_sendable keeper.digest fit.digest keeper.ids.node (asked keeper.ids.node it.name letters)
        (asked_fit keeper.ids.node it.name fit.node is.name letters (taken_at new letters ended taken).letters),
  )

  can_handle : (asks : Bool) (asker : ℕ) → asker < 2 ^ 8 → CanHandle asks asker it keeper
  can_handle true asker node = can_serve asker node
  can_handle false asker node = can_take

  can_close_after : (asks : Bool) → CanCloseAfter asks it keeper
  can_close_after true = can_close_passed keeper.digest it.name fit.digest is.name (after_serving local it.letter) served_local.0
  can_close_after false = λ new letters ended taken.
      can_close_passed keeper.digest it.name fit.digest is.name (objects_of new it.name)
      ((taken_at new letters ended taken).objects it.name)

  can_deliver_as : (heeded asks : Bool) (asker : ℕ) → asker < 2 ^ 8 → CanDeliverAs heeded asks asker it keeper
  can_deliver_as false asks asker node = tt
  can_deliver_as true asks asker node = (can_handle asks asker node, can_close_after asks)

pub can_deliver_fit : FitKeepersCanDeliver
can_deliver_fit keeper asker it fit node is =
    can_deliver_as keeper it fit is (heeds (kept_of keeper) (named_of it)) (is_request it.letter.message.body) asker node

-- The keeper stays fit

short_served : (declined : Bool) → TellsShort (served_as declined)
short_served false = tt
short_served true = tt

short_ended : (ended : Option Ended) → AllByRecursion IsShortEnded (option_to_list ended) → TellsShort (delivered_of ended)
short_ended None all = tt
short_ended (Some ended) all = all.0

handled_as : (asks : Bool) (asker : ℕ) (it : NamedLetter) (old new : Keeper) (before after : Work) (told : Delivered) →
    IsFitKeeper old → asker < 2 ^ 8 → IsFitNamed it → HandlesAs asks asker it old before new after told →
    IsLeftFit before new after × TellsShort told
handled_as true asker it old new before after told fit node is done =
    let serves = done.1 in
    let local = objects_of old.objects it.name in
    let left = outcome_fit old.objects new.objects it.name (serve_events local it.letter) serves.replies fit.objects
    (serving_fit local it.letter (fit.objects it.name) is.letter) serves.done in
    let sends = reply_sendings asker it.name serves.replies in (
      record {
        keeper = rest_fit old new fit serves.rest left.0;
        own = more_own before after
            (both_grown (logged_growth old.digest (served_records old it)) (sent_growth old.ids.node old.digest sends)) serves.grown
            (own_fit old.ids.node sends (replies_fit asker it.name node is.name serves.replies left.1));
      },
      subst TellsShort (sym done.0) (short_served (declines local it.letter)),
    )
handled_as false asker it old new before after told fit node is done =
    let ended = done.0 in
    let takes = done.2 in
    let left = taken_at old it fit is new.objects takes.letters (option_to_list ended) takes.done in
    let sends = asked old.ids.node it.name takes.letters in (
      record {
        keeper = rest_fit old new fit takes.rest left.objects;
        own = more_own before after
            (both_grown (logged_growth old.digest (taken_records old it))
            (both_grown (sent_growth old.ids.node old.digest sends) (tell_growth it.name ended))) takes.grown
            (all_append IsFitNamed (to_itself old.ids.node sends) []
            (own_fit old.ids.node sends (asked_fit old.ids.node it.name fit.node is.name takes.letters left.letters)) tt);
      },
      subst TellsShort (sym done.1) (short_ended ended left.ended),
    )

delivered_as : (heeded asks : Bool) (asker : ℕ) (it : NamedLetter) (old new : Keeper) (before after : Work) (told : Delivered) →
    IsFitKeeper old → asker < 2 ^ 8 → IsFitNamed it → DeliversAs heeded asks asker it old before new after told →
    IsLeftFit before new after × TellsShort told
delivered_as false asks asker it old new before after told fit node is done = (
  record { keeper = subst IsFitKeeper (sym done.1) fit; own = same_own before after no_growth done.2 refl },
  subst TellsShort (sym done.0) tt,
)
delivered_as true asks asker it old new before after told fit node is done =
    let first = handled_as asks asker it old done.middle before done.between told fit node is done.handles in
    let rest = closes_fit it.name done.middle new done.between after first.0.keeper done.closes in
    (record { keeper = rest.keeper; own = λ own. rest.own (first.0.own own) }, first.1)

pub delivered_fit : DeliveredKeepersAreFit
delivered_fit old new asker it before after told fit node is done =
    delivered_as (heeds (kept_of old) (named_of it)) (is_request it.letter.message.body) asker it old new before after told fit node is
    done
