-- What becomes of a letter that has come.
use Rattle.std.specs.Prelude.{◌≡◌, ℕ, Bool, true, false, if◌then◌else◌, List, [], ◌∷◌}
use Rattle.std.specs.Prelude.{Option, None, Some, option_to_list}
use Rattle.std.specs.List.{AllByRecursion}
use Rattle.encoder.specs.Fragment.{fragment}
use Rattle.letter.specs.declared.letter.Letter.{Letter}
use Rattle.local_object.specs.declared.progress.Ended.{Ended}
use Rattle.local_object.specs.Changing.{after_serving, is_changed_by}
use Rattle.mail.specs.Message.{is_request}
use Rattle.local_object.specs.Doing.{has_move_open, serve_events}
use Rattle.local_object.specs.Events.{all_done}
use Rattle.node_keeper.specs.Doing.{IsOutcomeAt, IsReplyOutcomeAt}
use Rattle.node_keeper.specs.declared.objects.Objects.{Objects}
use Rattle.node_keeper.specs.Objects.{objects_of}
use Rattle.recoveries.specs.Records.{LogRecord}
use Rattle.node_effects.specs.Seen.{named_of}
use Rattle.node_effects.specs.Work.{Growth, IsGrown, both_grown, no_growth}
use Rattle.letter.specs.declared.letter.NamedLetter.{NamedLetter}
use Rattle.node_effects.specs.declared.notice.Notice.{Notice}
use Rattle.node_effects.specs.declared.notice.Notice.TheVariants as notice
use Rattle.node_effects.specs.declared.work.Work.{Work}
use Rattle.node_keeper.specs.declared.delivered.Delivered.{Delivered}
use Rattle.node_keeper.specs.declared.delivered.Delivered.TheVariants as delivered
use Rattle.node_keeper.specs.Acts.{logged_growth}
use Rattle.node_keeper.specs.Closing.{CanClosePassed, ClosesPassed}
use Rattle.node_keeper.specs.Declining.{declines}
use Rattle.node_keeper.specs.Fitting.{CanBeWritten, IsLoggable, IsSendable}
use Rattle.node_keeper.specs.Keeping.{heeds, kept_of}
use Rattle.node_keeper.specs.Sendings.{asked, reply_sendings, sent_growth}
use Rattle.node_keeper.specs.declared.keeper.Keeper.{Keeper}

-- what the log gets before a request is served: its record, if it may change a bank
abbrev pub served_records : Keeper → NamedLetter → List LogRecord
served_records keeper it =
    if is_changed_by (objects_of keeper.objects it.name) it.letter then LogRecord.Serves it.name it.letter ∷ [] else []

-- what the log gets before a reply is taken: its record, if its call is an open move
abbrev pub taken_records : Keeper → NamedLetter → List LogRecord
taken_records keeper it =
    if has_move_open (objects_of keeper.objects it.name) it.letter.message.call
    then LogRecord.Takes it.name it.letter ∷ [] else []

-- what the log gets of a letter that has come: that it is served, if it is a request, or else that it is taken
abbrev pub arrival_record : NamedLetter → LogRecord
arrival_record it =
    if is_request it.letter.message.body then LogRecord.Serves it.name it.letter else LogRecord.Takes it.name it.letter

-- what clients see of a reply that was taken: the answer of its call, if it answered one
abbrev pub notices_of : (name : List ℕ) → Option Ended → List Notice
notices_of name None = []
notices_of name (Some ended) = notice.Tells name ended ∷ []

-- what is added to a node's work after a reply was taken
abbrev pub tell_growth : (name : List ℕ) → Option Ended → Growth
tell_growth name ended = record no_growth { notices = notices_of name ended }

-- the node keeps everything but its objects as it was
pub record KeepsRest (old new : Keeper) : Type 0 where
  pub file : new.file ≡ old.file
  pub digest : new.digest ≡ old.digest
  pub ids : new.ids ≡ old.ids

-- a request was served or sent back: its record went to the log, and the reply, or what is sent back, to the node that
-- asked
pub record ServesRequest (asker : ℕ) (it : NamedLetter) (old : Keeper) (before : Work) (new : Keeper)
    (after : Work) : Type 0 where
  pub replies : List Letter
  pub done : IsOutcomeAt old.objects it.name (serve_events (objects_of old.objects it.name) it.letter) new.objects
      replies
  pub grown : IsGrown before after (both_grown (logged_growth old.digest (served_records old it))
      (sent_growth old.ids.node old.digest (reply_sendings asker it.name replies)))
  pub fits : CanBeWritten old.ids.node old.digest (served_records old it) (reply_sendings asker it.name replies)
  pub rest : KeepsRest old new

-- a reply was taken: its record went to the log, its call sent these letters, and clients see its answer, if it ended
pub record TakesReply (it : NamedLetter) (old : Keeper) (before : Work) (new : Keeper) (after : Work)
    (ended : Option Ended) : Type 0 where
  pub letters : List Letter
  pub done : IsReplyOutcomeAt old.objects it.name it.letter new.objects letters (option_to_list ended)
  pub grown : IsGrown before after (both_grown (logged_growth old.digest (taken_records old it))
      (both_grown (sent_growth old.ids.node old.digest (asked old.ids.node it.name letters))
      (tell_growth it.name ended)))
  pub fits : CanBeWritten old.ids.node old.digest (taken_records old it) (asked old.ids.node it.name letters)
  pub rest : KeepsRest old new

-- what became of a letter that was taken
abbrev pub delivered_of : Option Ended → Delivered
delivered_of None = delivered.Handled
delivered_of (Some ended) = delivered.Ended ended

-- what became of a request; whether the node served it, and its bank declined it, is the argument
abbrev pub served_as : (declined : Bool) → Delivered
served_as false = delivered.Handled
served_as true = delivered.Declined

-- a request was served or sent back, or a reply was taken; whether the letter is a request is an argument
abbrev pub HandlesAs : (asks : Bool) → (asker : ℕ) → NamedLetter → (old : Keeper) → (before : Work) → (new : Keeper) →
    (after : Work) → Delivered → Type 0
HandlesAs true asker it old before new after result =
    (result ≡ served_as (declines (objects_of old.objects it.name) it.letter))
    × ServesRequest asker it old before new after
HandlesAs false asker it old before new after result =
    (ended : Option Ended) × (result ≡ delivered_of ended) × TakesReply it old before new after ended

-- a letter was handled so, and then the node closed its banks of positions before the object's start
pub record HandlesAndCloses (asks : Bool) (asker : ℕ) (it : NamedLetter) (old : Keeper) (before : Work) (new : Keeper)
    (after : Work) (result : Delivered) : Type 0 where
  pub middle : Keeper
  pub between : Work
  pub handles : HandlesAs asks asker it old before middle between result
  pub closes : ClosesPassed it.name middle between new after
  pub rest : KeepsRest old new

-- what became of a letter; whether the node heeds it, and whether it is a request, are arguments
abbrev pub DeliversAs : (heeded asks : Bool) → (asker : ℕ) → NamedLetter → (old : Keeper) → (before : Work) →
    (new : Keeper) → (after : Work) → Delivered → Type 0
DeliversAs false asks asker it old before new after result =
    (result ≡ delivered.Dropped) × (new ≡ old) × IsGrown before after no_growth
DeliversAs true asks asker it old before new after result = HandlesAndCloses asks asker it old before new after result

-- what became of a letter that has come from the node of number `asker`
abbrev pub DeliversLetter : (asker : ℕ) → NamedLetter → (old : Keeper) → (before : Work) → (new : Keeper) →
    (after : Work) → Delivered → Type 0
DeliversLetter asker it old before new after result =
    DeliversAs (heeds (kept_of old) (named_of it)) (is_request it.letter.message.body)
    asker it old before new after result

-- what clients see of a letter, by what became of it
abbrev pub told_by : (name : List ℕ) → Delivered → List Notice
told_by name delivered.Dropped = []
told_by name delivered.Handled = []
told_by name delivered.Declined = []
told_by name (delivered.Ended ended) = notice.Tells name ended ∷ []

-- whether a letter was dropped
abbrev pub was_dropped : Delivered → Bool
was_dropped delivered.Dropped = true
was_dropped delivered.Handled = false
was_dropped delivered.Declined = false
was_dropped (delivered.Ended ended) = false

-- everything that has to be written when a request is served can be written
abbrev pub CanServe : (asker : ℕ) → NamedLetter → Keeper → Type 0
CanServe asker it keeper =
    let local = objects_of keeper.objects it.name in
    CanBeWritten keeper.ids.node keeper.digest (served_records keeper it)
    (reply_sendings asker it.name (all_done fragment local (serve_events local it.letter)).sent)

-- everything that has to be written when a reply is taken can be written
abbrev pub CanTake : NamedLetter → Keeper → Type 0
CanTake it keeper =
    AllByRecursion (IsLoggable keeper.digest) (taken_records keeper it)
    × ((new : Objects) (letters : List Letter) (ended : List Ended) →
    IsReplyOutcomeAt keeper.objects it.name it.letter new letters ended →
    AllByRecursion (IsSendable keeper.ids.node keeper.digest) (asked keeper.ids.node it.name letters))

-- everything that has to be written when a letter is handled can be written; whether it is a request is an argument
abbrev pub CanHandle : (asks : Bool) → (asker : ℕ) → NamedLetter → Keeper → Type 0
CanHandle true asker it keeper = CanServe asker it keeper
CanHandle false asker it keeper = CanTake it keeper

-- what the log gets as the node then closes banks can be written, whatever comes of the letter
abbrev pub CanCloseAfter : (asks : Bool) → NamedLetter → Keeper → Type 0
CanCloseAfter true it keeper =
    CanClosePassed keeper.digest it.name (after_serving (objects_of keeper.objects it.name) it.letter)
CanCloseAfter false it keeper = (new : Objects) (letters : List Letter) (ended : List Ended) →
    IsReplyOutcomeAt keeper.objects it.name it.letter new letters ended →
    CanClosePassed keeper.digest it.name (objects_of new it.name)

-- all that has to be written for a letter can be written; `heeded` and `asks` say if it is heeded and is a request
abbrev pub CanDeliverAs : (heeded asks : Bool) → (asker : ℕ) → NamedLetter → Keeper → Type 0
CanDeliverAs false asks asker it keeper = Unit {0}
CanDeliverAs true asks asker it keeper = CanHandle asks asker it keeper × CanCloseAfter asks it keeper

-- all that has to be written for a letter that has come from the node of number `asker` can be written
abbrev pub CanDeliver : (asker : ℕ) → NamedLetter → Keeper → Type 0
CanDeliver asker it keeper =
    CanDeliverAs (heeds (kept_of keeper) (named_of it)) (is_request it.letter.message.body) asker it keeper

-- the id of the first of these calls, if there is one
abbrev pub first_id : List Ended → Option ℕ
first_id [] = None
first_id (ended ∷ more) = Some ended.id
