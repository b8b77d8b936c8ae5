-- The contracts that docs/trusted.md lists do not depend on this file; other contracts and proofs do.
-- The laws: exactly what the functions of a node's object do leaves a fit object fit, and all that they send is fit.
use Rattle.std.specs.Prelude.{◌≡◌, ◌<◌, ◌^◌, ℕ, List, [], ◌∷◌, IfSome, None}
use Rattle.std.specs.List.{AllByRecursion}
use Rattle.encoder.specs.Fragment.{fragment}
use Rattle.layout.specs.Layout.{Layout}
use Rattle.letter.specs.declared.letter.Letter.{Letter}
use Rattle.local_object.specs.Doing.{IsOutcome, close_events, give_up_events, is_taken, move_refusal, serve_events}
use Rattle.local_object.specs.Doing.{write_refusal}
use Rattle.local_object.specs.Events.{LocalEvent, done_here}
use Rattle.local_object.specs.Local.{LocalObject, with_heard}
use Rattle.local_object.specs.Passed.{raise_events}
use Rattle.local_object.specs.ReadingOn.{read_on_events}
use Rattle.local_object.specs.Replies.{IsReplyOutcome}
use Rattle.local_object.specs.Resent.{letters_again}
use Rattle.local_object.specs.declared.progress.Ended.{Ended}
use Rattle.fitting.specs.Calls.{IsShortValue}
use Rattle.fitting.specs.Letters.{IsFitLayout, IsFitLetter}
use Rattle.fitting.specs.Objects.{IsFitObject}

-- what the client of a call is told is a value that is not too long, if it is a value
abbrev pub IsShortEnded : Ended → Type 0
IsShortEnded ended = IfSome ended.value IsShortValue

-- these events, which happened, left the object fit, and all letters that they sent are fit
abbrev pub LeaveFit : LocalObject → List LocalEvent → Type 0
LeaveFit old events = (new : LocalObject) (sent : List Letter) → IsOutcome old events new sent →
    IsFitObject new × AllByRecursion IsFitLetter sent

-- a request comes, and its letter is fit: it is served, or the node hears of it or sends it back
abbrev pub ServingStaysFit : Type 0
ServingStaysFit = (old : LocalObject) (letter : Letter) → IsFitObject old → IsFitLetter letter →
    LeaveFit old (serve_events old letter)

-- a reply is taken, and its letter is fit; then what clients are told is not too long either
abbrev pub TakingStaysFit : Type 0
TakingStaysFit = (old new : LocalObject) (letter : Letter) (sent : List Letter) (ended : List Ended) → IsFitObject old →
    IsFitLetter letter → IsReplyOutcome (is_taken old letter) old letter new sent ended →
    IsFitObject new × AllByRecursion IsFitLetter sent × AllByRecursion IsShortEnded ended

-- a read, a write or a move begins that the object does not refuse
abbrev pub BeginningStaysFit : Type 0
BeginningStaysFit = (old : LocalObject) (id : ℕ) → IsFitObject old → id < 2 ^ 64 →
    LeaveFit old (LocalEvent.BeginRead id ∷ [])
    × ((value : List ℕ) → write_refusal old id value ≡ None → LeaveFit old (LocalEvent.BeginWrite id value ∷ []))
    × ((layout : Layout) → IsFitLayout layout → move_refusal old id ≡ None →
    LeaveFit old (LocalEvent.BeginMove id layout ∷ []))

-- the first letters of a call that begins are fit, whether the object refuses the call or not
abbrev pub FirstLettersAreFit : Type 0
FirstLettersAreFit = (local : LocalObject) (id : ℕ) → IsFitObject local → id < 2 ^ 64 →
    AllByRecursion IsFitLetter (done_here fragment local (LocalEvent.BeginRead id)).sent
    × ((value : List ℕ) → AllByRecursion IsFitLetter (done_here fragment local (LocalEvent.BeginWrite id value)).sent)
    × ((layout : Layout) → IsFitLayout layout →
    AllByRecursion IsFitLetter (done_here fragment local (LocalEvent.BeginMove id layout)).sent)

-- a call is given up
abbrev pub EndingStaysFit : Type 0
EndingStaysFit = (old : LocalObject) (id : ℕ) → IsFitObject old → LeaveFit old (give_up_events old id)

-- a call that reads the sequence of layouts goes on at the object's start
abbrev pub ReadingOnStaysFit : Type 0
ReadingOnStaysFit = (old : LocalObject) (id : ℕ) → IsFitObject old → LeaveFit old (read_on_events old id)

-- the pointer of a bank before the object's start is raised to final, or a bank is closed
abbrev pub ClosingStaysFit : Type 0
ClosingStaysFit = (old : LocalObject) (position : ℕ) → IsFitObject old →
    LeaveFit old (raise_events old position) × LeaveFit old (close_events old position)

-- the node hears of a position
abbrev pub HearingStaysFit : Type 0
HearingStaysFit = (old : LocalObject) (position : ℕ) (layout : Layout) → IsFitObject old → position < 2 ^ 32 →
    IsFitLayout layout → IsFitObject (with_heard old position layout)

-- the letters that a call sends again are fit
abbrev pub ResentIsFit : Type 0
ResentIsFit = (local : LocalObject) (id : ℕ) → IsFitObject local →
    AllByRecursion IsFitLetter (letters_again fragment local id)
