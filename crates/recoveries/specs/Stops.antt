-- A node that stops before it has done everything, when its log has only the first of the records, and only some of its
-- letters went out.
use Rattle.std.specs.Prelude.{◌≡◌, List, [], ◌∷◌, ◌++◌, map}
use Rattle.record.specs.Fragments.{Code}
use Rattle.deeds.specs.Deeds.{Notice}
use Rattle.deeds.specs.Handled.{IsHandled}
use Rattle.deeds.specs.Ids.{IsLater}
use Rattle.deeds.specs.Kept.{KeptNode}
use Rattle.deeds.specs.Named.{NamedLetter, IsOneOf}
use Rattle.deeds.specs.Restarts.{IsRestarted}
use Rattle.recoveries.specs.Copies.{IsLogged, IsRecorded}
use Rattle.recoveries.specs.Records.{IsStarted, LogRecord, Recovers}

-- what leaves a node: a record that goes to its log, or a letter that goes to a node
pub data Output : Type 0 where
  Logs : LogRecord → Output
  Sends : NamedLetter → Output

-- the records among these, in their order
abbrev pub logged_in : List Output → List LogRecord
logged_in [] = []
logged_in (Output.Logs it ∷ outputs) = it ∷ logged_in outputs
logged_in (Output.Sends letter ∷ outputs) = logged_in outputs

-- the letters among these, in their order
abbrev pub sent_in : List Output → List NamedLetter
sent_in [] = []
sent_in (Output.Logs it ∷ outputs) = sent_in outputs
sent_in (Output.Sends letter ∷ outputs) = letter ∷ sent_in outputs

-- first records, and then letters
abbrev pub logged_first : List LogRecord → List NamedLetter → List Output
logged_first records sent = map (λ it. Output.Logs it) records ++ map (λ letter. Output.Sends letter) sent

-- the node could have reached, on its way, a state in which it has sent all letters among these outputs, for which the
-- records among them are enough, and by which its clients had seen the first of these notices
pub record IsOnTheWay (fragment : Code) (old : KeptNode) (got : List NamedLetter) (outputs : List Output)
    (seen : List Notice) : Type 0 where
  pub middle : KeptNode
  pub more : List NamedLetter
  pub notices : List Notice
  pub unseen : List Notice
  pub handled : IsHandled fragment old got middle (sent_in outputs ++ more) notices
  pub logged : IsLogged old (logged_in outputs) middle
  pub first_seen : seen ≡ notices ++ unseen

-- The node handled letters; the letters among these outputs are those that it sent, and the records among them are
-- enough for what it did. Each beginning of the outputs is one at which the node may stop: its records are enough for a
-- state that the node could have reached on the way. By then it had sent the letters of that beginning, and its clients
-- had seen the first of the notices. So a letter may go out as soon as the log has all records before it.
pub record IsHandledSafely (fragment : Code) (old : KeptNode) (got : List NamedLetter) (outputs : List Output)
    (new : KeptNode) (notices : List Notice) : Type 0 where
  pub handled : IsHandled fragment old got new (sent_in outputs) notices
  pub logged : IsLogged old (logged_in outputs) new
  pub stops : (first rest : List Output) → outputs ≡ first ++ rest → IsOnTheWay fragment old got first notices

-- what needs no record is handled safely
abbrev pub UnloggedIsSafe : Type 0
UnloggedIsSafe = (fragment : Code) (old new : KeptNode) (got sent : List NamedLetter) (notices : List Notice) →
    IsHandled fragment old got new sent notices → IsLogged old [] new →
    IsHandledSafely fragment old got (logged_first [] sent) new notices

-- what needs one record is handled safely, if the letters go out behind the record
abbrev pub OneRecordIsSafe : Type 0
OneRecordIsSafe = (fragment : Code) (old new : KeptNode) (got sent : List NamedLetter) (notices : List Notice)
    (one : LogRecord) → IsLater old.ids old.ids → IsHandled fragment old got new sent notices →
    IsLogged old (one ∷ []) new → IsHandledSafely fragment old got (logged_first (one ∷ []) sent) new notices

-- two things that a node handles safely, one after the other, it handles safely together
abbrev pub TwoAreSafe : Type 0
TwoAreSafe = (fragment : Code) (old middle new : KeptNode) (got : List NamedLetter) (outputs more : List Output)
    (seen later : List Notice) → IsHandledSafely fragment old got outputs middle seen →
    IsHandledSafely fragment middle (got ++ sent_in outputs) more new later →
    IsHandledSafely fragment old got (outputs ++ more) new (seen ++ later)

-- letters that have come and are not needed do no harm
abbrev pub MoreIsSafe : Type 0
MoreIsSafe = (fragment : Code) (old new : KeptNode) (got more : List NamedLetter) (outputs : List Output)
    (notices : List Notice) → ((letter : NamedLetter) → IsOneOf got letter → IsOneOf more letter) →
    IsHandledSafely fragment old got outputs new notices → IsHandledSafely fragment old more outputs new notices

-- If a node stopped on the way, and starts again from the records that its log has, it is as if it had handled letters
-- up to some state, and had started again from there as it has to. Up to that state it had sent all letters that may
-- have gone out: those before the first record that the log lacks. By then its clients had seen the first notices.
abbrev pub StoppedNodesRestart : Type 0
StoppedNodesRestart = (fragment : Code) (begin old copy after : KeptNode) (got : List NamedLetter)
    (records : List LogRecord) (first : List Output) (seen : List Notice) → IsRecorded begin records old →
    IsOnTheWay fragment old got first seen → Recovers (records ++ logged_in first) begin copy → IsStarted copy after →
    (middle : KeptNode) × (more : List NamedLetter) × (notices : List Notice) × (unseen : List Notice)
    × (seen ≡ notices ++ unseen) × IsHandled fragment old got middle (sent_in first ++ more) notices
    × IsRestarted middle after × IsRecorded begin ((records ++ logged_in first) ++ LogRecord.Starts ∷ []) after
