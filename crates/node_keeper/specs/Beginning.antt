-- Calls that begin at an object, or that the object refuses.
use Rattle.std.specs.Prelude.{◌≡◌, ⊤, ℕ, Bool, true, false, List, [], ◌∷◌, Option, None, Some}
use Rattle.std.specs.List.{AllByRecursion}
use Rattle.encoder.specs.Fragment.{fragment}
use Rattle.layout.specs.Layout.{Layout}
use Rattle.tag.specs.declared.refusal.Refusal.{Refusal}
use Rattle.letter.specs.declared.letter.Letter.{Letter}
use Rattle.local_object.specs.Doing.{move_refusal, read_refusal, write_refusal}
use Rattle.local_object.specs.Events.{LocalEvent, done_here}
use Rattle.local_object.specs.Local.{LocalObject}
use Rattle.node_keeper.specs.Doing.{IsOutcomeAt}
use Rattle.node_keeper.specs.Objects.{AreSame, objects_of}
use Rattle.recoveries.specs.Records.{LogRecord}
use Rattle.node_effects.specs.Work.{Growth, IsGrown, both_grown}
use Rattle.node_effects.specs.declared.error.NodeError.{NodeError}
use Rattle.node_effects.specs.declared.error.NodeError.TheVariants as errors
use Rattle.node_effects.specs.declared.notice.Notice.{Notice}
use Rattle.node_effects.specs.declared.notice.Notice.TheVariants as notice
use Rattle.node_effects.specs.declared.work.Work.{Work}
use Rattle.node_keeper.specs.declared.delivered.Begun.{Begun}
use Rattle.node_keeper.specs.declared.delivered.Begun.TheVariants as begun
use Rattle.node_keeper.specs.Acts.{GivesId, logged_growth}
use Rattle.node_keeper.specs.NextIds.{next_id_of}
use Rattle.node_keeper.specs.Fitting.{CanBeWritten}
use Rattle.node_keeper.specs.Resending.{sendings_of}
use Rattle.node_keeper.specs.Sendings.{Sending, asks_next, sent_growth}
use Rattle.node_keeper.specs.declared.keeper.Keeper.{Keeper}

-- a call that is to begin at the object of a name, by the id that it gets: what begins it, why the object refuses it,
-- what clients see of it, what the log gets, and whether its first request also goes to each other node of the cluster
-- file
pub record Beginning : Type 0 where
  pub name : List ℕ
  pub event : (id : ℕ) → LocalEvent
  pub refusal : LocalObject → (id : ℕ) → Option Refusal
  pub notice : (id : ℕ) → Notice
  pub records : (id : ℕ) → List LogRecord
  pub asks_all : Bool

-- a read of the object of a name, which asks all nodes or only those that keep the object
abbrev pub reading_call : (name : List ℕ) → (asks_all : Bool) → Beginning
reading_call name asks_all = record {
  name = name;
  event = λ id. LocalEvent.BeginRead id;
  refusal = read_refusal;
  notice = λ id. notice.Reads name id;
  records = λ id. [];
  asks_all = asks_all;
}

-- a write of a value to the object of a name
abbrev pub writing_call : (name value : List ℕ) → Beginning
writing_call name value = record {
  name = name;
  event = λ id. LocalEvent.BeginWrite id value;
  refusal = λ local id. write_refusal local id value;
  notice = λ id. notice.Writes name id value;
  records = λ id. [];
  asks_all = false;
}

-- a move of the object of a name to a layout
abbrev pub moving_call : (name : List ℕ) → Layout → Beginning
moving_call name layout = record {
  name = name;
  event = λ id. LocalEvent.BeginMove id layout;
  refusal = move_refusal;
  notice = λ id. notice.Moves name id layout;
  records = λ id. LogRecord.Moves name id layout ∷ [];
  asks_all = false;
}

-- what is added to a node's work when a call begins, before its letters go out: records for the log, and the notice
abbrev pub opened_growth : (digest : List ℕ) → List LogRecord → Notice → Growth
opened_growth digest records seen = record (logged_growth digest records) { notices = seen ∷ [] }

-- the requests with which a call begins, each with the node to which it goes
abbrev pub begun_sendings : Beginning → Keeper → List Letter → List Sending
begun_sendings call keeper letters = sendings_of call.asks_all keeper.ids.node keeper.file call.name letters

-- what is added to a node's work when a call begins, together with its letters
abbrev pub begun_growth : Beginning → (id : ℕ) → Keeper → List Letter → Growth
begun_growth call id keeper letters =
    both_grown (opened_growth keeper.digest (call.records id) (call.notice id))
    (sent_growth keeper.ids.node keeper.digest (begun_sendings call keeper letters))

-- the call began with this id, which was the next one
pub record IsCallBegun (call : Beginning) (id : ℕ) (old : Keeper) (before : Work) (new : Keeper)
    (after : Work) : Type 0 where
  pub given : Work
  pub gives : GivesId old.ids id new.ids before given
  pub cause : call.refusal (objects_of old.objects call.name) id ≡ None
  pub letters : List Letter
  pub done : IsOutcomeAt old.objects call.name (call.event id ∷ []) new.objects letters
  pub grown : IsGrown given after (begun_growth call id old letters)
  pub fits : CanBeWritten old.ids.node old.digest (call.records id) (begun_sendings call old letters)
  pub file : new.file ≡ old.file
  pub digest : new.digest ≡ old.digest

-- the object refused the call, for which the next id was given, and no object changed
pub record IsCallRefused (call : Beginning) (refusal : Refusal) (old : Keeper) (before : Work) (new : Keeper)
    (after : Work) : Type 0 where
  pub id : ℕ
  pub gives : GivesId old.ids id new.ids before after
  pub cause : call.refusal (objects_of old.objects call.name) id ≡ Some refusal
  pub same : AreSame old.objects new.objects
  pub file : new.file ≡ old.file
  pub digest : new.digest ≡ old.digest

-- what became of a call that was to begin
abbrev pub BeginsCall : Beginning → (old : Keeper) → (before : Work) → (new : Keeper) → (after : Work) → Begun → Type 0
BeginsCall call old before new after (begun.Open id) = IsCallBegun call id old before new after
BeginsCall call old before new after (begun.Refused refusal) = IsCallRefused call refusal old before new after

-- what clients see of a call that was to begin
abbrev pub seen_of_begun : (ℕ → Notice) → Begun → List Notice
seen_of_begun seen (begun.Open id) = seen id ∷ []
seen_of_begun seen (begun.Refused refusal) = []

-- everything that has to be written when the call with this id begins can be written
abbrev pub CanBegin : Beginning → (id : ℕ) → Keeper → Type 0
CanBegin call id keeper =
    CanBeWritten keeper.ids.node keeper.digest (call.records id) (begun_sendings call keeper
    (done_here fragment (objects_of keeper.objects call.name) (call.event id)).sent)

-- why a node cannot go on when a call was to begin: memory is refused, there is no id and no further epoch, or what
-- the call needs cannot be written
abbrev pub IsNotBegun : Beginning → Keeper → NodeError → Type 0
IsNotBegun call keeper errors.NoMemory = ⊤
IsNotBegun call keeper errors.NoMoreIds = next_id_of keeper.ids ≡ None
IsNotBegun call keeper errors.Unwritable =
    (id : ℕ) × (next_id_of keeper.ids ≡ Some id) × (CanBegin call id keeper → ⊥)
IsNotBegun call keeper (errors.Refused refusal) = ⊥

-- all requests with which a read begins ask for the next position; so the first of them goes to all nodes, if these are
-- to be asked
abbrev pub ReadsAskNext : Type 0
ReadsAskNext = (local : LocalObject) (id : ℕ) →
    AllByRecursion (λ letter. asks_next letter.message.body ≡ true)
    (done_here fragment local (LocalEvent.BeginRead id)).sent
