-- The contracts that docs/trusted.md lists do not depend on this file; other contracts and proofs do.
-- When a node may answer a client early, by what its call was told, and the history with such answers in place.
use Rattle.std.specs.Prelude.{◌≡◌, ℕ, ◌+◌, ◌<◌, ◌≤◌, ◌⊎◌, ◌==◌, false, if◌then◌else◌}
use Rattle.std.specs.Prelude.{List, [], ◌∷◌, ◌++◌, length, map, Option, None, Some}
use Rattle.tag.specs.declared.tag.Tag.{Tag}
use Rattle.tag.specs.Tag.{tag_lt}
use Rattle.layout.specs.Layout.{Layout, quorum_of}
use Rattle.piece.specs.declared.piece.Piece.{Piece}
use Rattle.bank.specs.declared.kind.Kind.{Kind}
use Rattle.bank.specs.declared.kind.Kind.TheVariants.{Fetch, Finalize}
use Rattle.bank.specs.declared.status.Status.TheVariants.{Unset}
use Rattle.record.specs.declared.call.CallKind.TheVariants.{Read}
use Rattle.record.specs.declared.call.Entry.{Entry}
use Rattle.record.specs.declared.call.Operation.{Operation}
use Rattle.record.specs.declared.call.Operation.TheVariants as operation
use Rattle.record.specs.declared.stage.Stage.TheVariants.{ReadNext}
use Rattle.record.specs.Fragments.{Code, HasPieces, IsFetch, IsFragment, IsValue}
use Rattle.record.specs.Legal.{is_move}
use Rattle.open_calls.specs.OpenCalls.{NodeCall}
use Rattle.network.specs.Worlds.{World, known_layout, parts_of}
use Rattle.network.specs.Events.{Event, IsOpen}
use Rattle.early_ends.specs.Told.{last_of}
use Rattle.letter.specs.declared.telling.Telling.{Telling}
use Rattle.told_replies.specs.Tellings.{HaveTold, Run, run_until, world_of}

-- What a call was told

-- the layout of the position whose members the call's current phase asks
abbrev pub asked_layout : World → NodeCall → Layout
asked_layout world call = known_layout world call.node call.phase.position

-- a member that serves a request of this kind finalizes the tag
abbrev pub Finalizes : Kind → Tag → Type 0
Finalizes kind tag = (kind ≡ Finalize tag) ⊎ (kind ≡ Fetch tag)

-- the member told an unset pointer, and that the tag is its greatest finalized one, or else the request finalized the
-- tag
abbrev pub TellsHeld : Kind → Tag → (member : ℕ) → Telling → Type 0
TellsHeld kind tag member telling = (telling.status ≡ Unset) × ((telling.greatest ≡ tag) ⊎ Finalizes kind tag)

-- more than n - k members told the call that they held the tag
pub record IsToldHeld (fragment : Code) (run : Run) (call : NodeCall) (tag : Tag) : Type 0 where
  pub members : List ℕ
  pub told : HaveTold fragment run call (TellsHeld call.phase.kind tag) members
  pub enough : length (asked_layout (world_of fragment run) call).members
      < (asked_layout (world_of fragment run) call).k + length members

-- the member told a greatest finalized tag that is not greater than this one
abbrev pub TellsNoGreater : Tag → (member : ℕ) → Telling → Type 0
TellsNoGreater tag member telling = tag_lt tag telling.greatest ≡ false

-- each of a quorum told the call a greatest finalized tag, and none of these is greater than this one
pub record IsToldGreatest (fragment : Code) (run : Run) (call : NodeCall) (tag : Tag) : Type 0 where
  pub members : List ℕ
  pub told : HaveTold fragment run call (TellsNoGreater tag) members
  pub enough : quorum_of (asked_layout (world_of fragment run) call) ≤ length members

-- the member told the piece of this tag, which is its fragment of the value
abbrev pub TellsPiece : Code → Layout → Tag → (value : List ℕ) → (member : ℕ) → Telling → Type 0
TellsPiece fragment layout tag value member telling =
    (telling.greatest ≡ tag)
    × ((piece : Piece) × (telling.piece ≡ Some piece) × IsFragment fragment layout member value piece)

-- k members told the call their pieces of this tag, and these give the value
pub record IsToldValue (fragment : Code) (run : Run) (call : NodeCall) (tag : Tag) (value : List ℕ) : Type 0 where
  pub members : List ℕ
  pub told : HaveTold fragment run call
      (TellsPiece fragment (asked_layout (world_of fragment run) call) tag value) members
  pub enough : (asked_layout (world_of fragment run) call).k ≤ length members
  pub is_value : IsValue value

-- When an answer may be given early

-- the read has this value: it settled the value, or its current phase is a fetch that took k pieces of the value
abbrev pub HasValue : Code → World → NodeCall → (value : List ℕ) → Type 0
HasValue fragment world call value = (call.settled ≡ Some value)
    ⊎ (IsFetch call.phase.kind × HasPieces fragment (parts_of world call.node) call.phase value × IsValue value)

-- a read or a write asks the members of its last position to finalize or to fetch its tag, and was told that the tag is
-- held there; a read returns its value
pub record EndsHeld (fragment : Code) (run : Run) (call : NodeCall) (returned : Option (List ℕ)) : Type 0 where
  pub client : is_move call.kind ≡ false
  pub last : last_of call.stage ≡ Some call.phase.position
  pub tag : Tag
  pub puts : Finalizes call.phase.kind tag
  pub held : IsToldHeld fragment run call tag
  pub returns : call.kind ≡ Read →
      (value : List ℕ) × (returned ≡ Some value) × HasValue fragment (world_of fragment run) call value

-- a read asks the first position that counts: a quorum told the tag or smaller ones, the call was told that the tag is
-- held, and it returns what k pieces of the tag give
pub record EndsAtOnce (fragment : Code) (run : Run) (call : NodeCall) (returned : Option (List ℕ)) : Type 0 where
  pub reads : call.kind ≡ Read
  pub position : ℕ
  pub stage : call.stage ≡ ReadNext position position
  pub tag : Tag
  pub greatest : IsToldGreatest fragment run call tag
  pub held : IsToldHeld fragment run call tag
  pub value : List ℕ
  pub is_returned : returned ≡ Some value
  pub pieces : IsToldValue fragment run call tag value

-- an early answer: the id of the call, how many events there were before, and what a read returned
pub record EarlyAnswer : Type 0 where
  pub id : ℕ
  pub now : ℕ
  pub value : Option (List ℕ)

-- the answer was given in this run, after some of its events, when a node carried out the call, which had been told
-- enough by then; whatever the node did with the call afterwards
pub record IsEarly (fragment : Code) (run : Run) (answer : EarlyAnswer) : Type 0 where
  pub before : List Event
  pub after : List Event
  pub until : run.events ≡ before ++ after
  pub now : answer.now ≡ (world_of fragment (run_until run before)).now
  pub call : NodeCall
  pub carried : IsOpen (world_of fragment (run_until run before)) answer.id call
  pub ends : EndsHeld fragment (run_until run before) call answer.value
      ⊎ EndsAtOnce fragment (run_until run before) call answer.value

-- The history with these answers

-- the first of these answers to the call with this id, if there is one
abbrev pub early_answer_to : List EarlyAnswer → (id : ℕ) → Option EarlyAnswer
early_answer_to [] id = None
early_answer_to (answer ∷ answers) id = if answer.id == id then Some answer else early_answer_to answers id

-- the value of an entry with an early answer: what the answer returned, if the call is a read
abbrev pub early_value : Operation → (returned value : Option (List ℕ)) → Option (List ℕ)
early_value operation.Read returned value = returned
early_value _ returned value = value

-- the entry as its client saw it: with this answer, if there is one
abbrev pub as_answered : Option EarlyAnswer → Entry → Entry
as_answered None entry = entry
as_answered (Some answer) entry =
    record entry { answered = Some answer.now; value = early_value entry.kind answer.value entry.value }

-- the history as clients saw it
abbrev pub early_history : List EarlyAnswer → List Entry → List Entry
early_history answers history = map (λ (entry : Entry). as_answered (early_answer_to answers entry.call) entry) history
