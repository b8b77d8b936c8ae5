-- The contracts that docs/trusted.md lists do not depend on this file; other contracts and proofs do.
-- The laws: which records a log needs of what a node does, and that a node which carries them out again has started
-- again as it has to.
use Rattle.std.specs.Prelude.{◌≡◌, ◌<◌, ◌+◌, ◌^◌, ℕ, true, false, List, [], ◌∷◌, ◌++◌, None, Some}
use Rattle.layout.specs.Layout.{IsLawful, Layout}
use Rattle.letter.specs.declared.letter.Letter.{Letter}
use Rattle.local_object.specs.Changing.{IsUnchangedBy}
use Rattle.local_object.specs.Doing.{close_events, give_up_events, has_move_open, move_refusal, read_refusal}
use Rattle.local_object.specs.Doing.{serve_events, write_refusal}
use Rattle.local_object.specs.Events.{LocalEvent}
use Rattle.local_object.specs.Passed.{raise_events}
use Rattle.local_object.specs.ReadingOn.{read_on_events}
use Rattle.object_letters.specs.Raising.{raising_letter}
use Rattle.deeds.specs.Kept.{FileOfNames, KeptNode, new_node}
use Rattle.deeds.specs.Restarts.{IsRestarted}
use Rattle.recoveries.specs.Copies.{IsCopyOf, IsHeeded, IsLogged, IsRecorded}
use Rattle.recoveries.specs.Records.{IsNamedOutcome, IsSame, IsStarted, IsNamedReplyOutcome, LogRecord, Recovers}

-- What needs a record

-- an epoch that begins
abbrev pub StartsAreLogged : Type 0
StartsAreLogged = (old new : KeptNode) → IsStarted old new → IsLogged old (LogRecord.Starts ∷ []) new

-- a letter that is served
abbrev pub ServedIsLogged : Type 0
ServedIsLogged = (old new : KeptNode) (name : List ℕ) (letter : Letter) → IsHeeded old name letter →
    IsNamedOutcome old name (serve_events (old.objects name) letter) new →
    IsLogged old (LogRecord.Serves name letter ∷ []) new

-- a reply to an open move
abbrev pub TakenIsLogged : Type 0
TakenIsLogged = (old new : KeptNode) (name : List ℕ) (letter : Letter) →
    has_move_open (old.objects name) letter.message.call ≡ true → IsNamedReplyOutcome old name letter new →
    IsLogged old (LogRecord.Takes name letter ∷ []) new

-- a move that begins, at the node that moves objects
abbrev pub MovesAreLogged : Type 0
MovesAreLogged = (old new : KeptNode) (name : List ℕ) (id : ℕ) (layout : Layout) →
    old.ids.node ≡ old.file.mover → move_refusal (old.objects name) id ≡ None →
    IsNamedOutcome old name (LocalEvent.BeginMove id layout ∷ []) new →
    IsLogged old (LogRecord.Moves name id layout ∷ []) new

-- a bank that is closed
abbrev pub ClosesAreLogged : Type 0
ClosesAreLogged = (old new : KeptNode) (name : List ℕ) (position : ℕ) →
    IsNamedOutcome old name (close_events (old.objects name) position) new →
    IsLogged old (LogRecord.Closes name position ∷ []) new

-- a pointer that is raised to final: the record has the letter with which the node asks itself to raise it
abbrev pub RaisesAreLogged : Type 0
RaisesAreLogged = (old new : KeptNode) (name : List ℕ) (position : ℕ) (letter : Letter) →
    raising_letter (old.objects name) position ≡ Some letter → position + 1 < 2 ^ 32 → IsLawful letter.layout →
    IsNamedOutcome old name (raise_events (old.objects name) position) new →
    IsLogged old (LogRecord.Serves name letter ∷ []) new

-- What needs no record

-- nothing happens to an object; ids may be used up
abbrev pub SameNeedsNoRecord : Type 0
SameNeedsNoRecord = (old new : KeptNode) → IsSame old new → IsLogged old [] new

-- a letter that is served and changes no bank, or that is not served: at most its layouts and its start are heard of
abbrev pub UnchangedNeedsNoRecord : Type 0
UnchangedNeedsNoRecord = (old new : KeptNode) (name : List ℕ) (letter : Letter) → IsHeeded old name letter →
    IsUnchangedBy (old.objects name) letter → IsNamedOutcome old name (serve_events (old.objects name) letter) new →
    IsLogged old [] new

-- a reply to a read or a write, or to no call that is open here
abbrev pub TakenNeedsNoRecord : Type 0
TakenNeedsNoRecord = (old new : KeptNode) (name : List ℕ) (letter : Letter) → IsHeeded old name letter →
    has_move_open (old.objects name) letter.message.call ≡ false → IsNamedReplyOutcome old name letter new →
    IsLogged old [] new

-- a read that begins
abbrev pub ReadsNeedNoRecord : Type 0
ReadsNeedNoRecord = (old new : KeptNode) (name : List ℕ) (id : ℕ) → read_refusal (old.objects name) id ≡ None →
    IsNamedOutcome old name (LocalEvent.BeginRead id ∷ []) new → IsLogged old [] new

-- a write that begins
abbrev pub WritesNeedNoRecord : Type 0
WritesNeedNoRecord = (old new : KeptNode) (name : List ℕ) (id : ℕ) (value : List ℕ) →
    write_refusal (old.objects name) id value ≡ None →
    IsNamedOutcome old name (LocalEvent.BeginWrite id value ∷ []) new → IsLogged old [] new

-- a read or a write that goes on at the object's start
abbrev pub ReadingOnNeedsNoRecord : Type 0
ReadingOnNeedsNoRecord = (old new : KeptNode) (name : List ℕ) (id : ℕ) →
    IsNamedOutcome old name (read_on_events (old.objects name) id) new → IsLogged old [] new

-- a read or a write that is given up
abbrev pub GivenUpNeedsNoRecord : Type 0
GivenUpNeedsNoRecord = (old new : KeptNode) (name : List ℕ) (id : ℕ) →
    IsNamedOutcome old name (give_up_events (old.objects name) id) new → IsLogged old [] new

-- Runs

-- records that are enough for one thing, and then records that are enough for the next, are enough for both
abbrev pub TwoAreLogged : Type 0
TwoAreLogged = (old middle new : KeptNode) (first second : List LogRecord) → IsLogged old first middle →
    IsLogged middle second new → IsLogged old (first ++ second) new

-- a new node needs no records
abbrev pub NewIsRecorded : Type 0
NewIsRecorded = (file : FileOfNames) (number : ℕ) → IsRecorded (new_node file number) [] (new_node file number)

-- a log that is enough for what a node keeps still is, once the records of what the node does next are added
abbrev pub MoreIsRecorded : Type 0
MoreIsRecorded = (first old new : KeptNode) (records more : List LogRecord) → IsRecorded first records old →
    IsLogged old more new → IsRecorded first (records ++ more) new

-- if a copy of a node begins an epoch, the node has started again as it has to
abbrev pub CopiesRestart : Type 0
CopiesRestart = (before copy after : KeptNode) → IsCopyOf before copy → IsStarted copy after → IsRestarted before after

-- carrying out two lists of records one after the other is carrying out the joined list
abbrev pub TwoAreRecovered : Type 0
TwoAreRecovered = (old middle new : KeptNode) (first second : List LogRecord) → Recovers first old middle →
    Recovers second middle new → Recovers (first ++ second) old new

-- a node that carries out all records again, and then begins an epoch, has started again as it has to; and the log,
-- with the start added, is enough for what the node keeps then
abbrev pub RecoveredNodesRestart : Type 0
RecoveredNodesRestart = (first before copy after : KeptNode) (records : List LogRecord) →
    IsRecorded first records before → Recovers records first copy → IsStarted copy after →
    IsRestarted before after × IsRecorded first (records ++ LogRecord.Starts ∷ []) after
