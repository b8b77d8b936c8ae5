-- What the log of a node records, and what the node keeps after it has carried the records out again.
use Rattle.std.specs.Prelude.{◌≡◌, ◌<◌, ◌^◌, ℕ, suc, List, [], ◌∷◌}
use Rattle.layout.specs.Layout.{IsLawful, Layout}
use Rattle.deeds.specs.CallId.{with_next_epoch}
use Rattle.letter.specs.declared.letter.Letter.{Letter}
use Rattle.local_object.specs.declared.progress.Ended.{Ended}
use Rattle.local_object.specs.Doing.{IsOutcome, close_events, is_taken, serve_events}
use Rattle.local_object.specs.Events.{LocalEvent}
use Rattle.local_object.specs.Local.{LocalObject, with_heard}
use Rattle.local_object.specs.Replies.{IsReplyOutcome}
use Rattle.deeds.specs.Kept.{KeptNode}
use Rattle.deeds.specs.Named.{with_named}

-- what a log records: an epoch of ids began, or an object, which the record names, served a letter, took one, began a
-- move, or closed its bank of a position; or, in a log that was rewritten, the node had heard of a position of the
-- object, with this layout
pub data LogRecord : Type 0 where
  Starts : LogRecord
  Serves : (name : List ℕ) → Letter → LogRecord
  Takes : (name : List ℕ) → Letter → LogRecord
  Moves : (name : List ℕ) → (id : ℕ) → Layout → LogRecord
  Hears : (name : List ℕ) → (position : ℕ) → Layout → LogRecord
  Closes : (name : List ℕ) → (position : ℕ) → LogRecord

-- a node keeps the same of all objects as before, with the same cluster file and number, in the same epoch
pub record IsSame (old new : KeptNode) : Type 0 where
  pub file : new.file ≡ old.file
  pub node : new.ids.node ≡ old.ids.node
  pub epoch : new.ids.epoch ≡ old.ids.epoch
  pub objects : (name : List ℕ) → new.objects name ≡ old.objects name

-- the node keeps this under a name, and otherwise the same as before, in the same epoch
pub record IsKeptUnder (old : KeptNode) (name : List ℕ) (local : LocalObject) (new : KeptNode) : Type 0 where
  pub file : new.file ≡ old.file
  pub node : new.ids.node ≡ old.ids.node
  pub epoch : new.ids.epoch ≡ old.ids.epoch
  pub objects : (other : List ℕ) → new.objects other ≡ with_named old.objects name local other

-- these events may happen at the object of a name, and after them the node keeps this
pub record IsNamedOutcome (old : KeptNode) (name : List ℕ) (events : List LocalEvent) (new : KeptNode) : Type 0 where
  pub local : LocalObject
  pub sent : List Letter
  pub done : IsOutcome (old.objects name) events local sent
  pub put : IsKeptUnder old name local new

-- the object of a name took a letter, if that is a reply to a call that is open there, and then the node keeps this
pub record IsNamedReplyOutcome (old : KeptNode) (name : List ℕ) (letter : Letter) (new : KeptNode) : Type 0 where
  pub local : LocalObject
  pub sent : List Letter
  pub ended : List Ended
  pub taken : IsReplyOutcome (is_taken (old.objects name) letter) (old.objects name) letter local sent ended
  pub put : IsKeptUnder old name local new

-- the node heard of a position of the object of a name, with this lawful layout, and then keeps this
pub record IsNamedHearing (old : KeptNode) (name : List ℕ) (position : ℕ) (layout : Layout)
    (new : KeptNode) : Type 0 where
  pub lawful : IsLawful layout
  pub put : IsKeptUnder old name (with_heard (old.objects name) position layout) new

-- the node began the next epoch, since there was one
pub record IsStarted (old new : KeptNode) : Type 0 where
  pub file : new.file ≡ old.file
  pub more : suc old.ids.epoch < 2 ^ 24
  pub ids : new.ids ≡ with_next_epoch old.ids
  pub objects : (name : List ℕ) → new.objects name ≡ old.objects name

-- the node carried out a record again
abbrev pub RecoversOne : LogRecord → (old new : KeptNode) → Type 0
RecoversOne LogRecord.Starts old new = IsStarted old new
RecoversOne (LogRecord.Serves name letter) old new =
    IsNamedOutcome old name (serve_events (old.objects name) letter) new
RecoversOne (LogRecord.Takes name letter) old new = IsNamedReplyOutcome old name letter new
RecoversOne (LogRecord.Moves name id layout) old new = IsNamedOutcome old name (LocalEvent.BeginMove id layout ∷ []) new
RecoversOne (LogRecord.Hears name position layout) old new = IsNamedHearing old name position layout new
RecoversOne (LogRecord.Closes name position) old new =
    IsNamedOutcome old name (close_events (old.objects name) position) new

-- the node carried out these records again, one after another
abbrev pub Recovers : List LogRecord → (old new : KeptNode) → Type 0
Recovers [] old new = IsSame old new
Recovers (first ∷ records) old new =
    (middle : KeptNode) × RecoversOne first old middle × Recovers records middle new
