-- The contracts that docs/trusted.md lists do not depend on this file; other contracts and proofs do.
-- Answers that clients were told early, whatever the calls did afterwards, when such an answer may be told, and the
-- history with these answers in place.
use Rattle.std.specs.Prelude.{◌≡◌, ℕ, suc, ◌<◌, ◌≤◌, ◌⊎◌, ◌==◌, nat_eq, false, if◌then◌else◌}
use Rattle.std.specs.Prelude.{List, [], ◌∷◌, ◌++◌, length, Option, Some, None, slice_get}
use Rattle.std.specs.List.{AllByRecursion, IsDistinct}
use Rattle.tag.specs.declared.tag.Tag.{Tag}
use Rattle.tag.specs.Tag.{tag_lt}
use Rattle.layout.specs.Quorum.{IsQuorum}
use Rattle.bank.specs.Bank.{Bank}
use Rattle.bank.specs.Knowledge.{HasFinalized}
use Rattle.mail.specs.Phase.{Phase}
use Rattle.piece.specs.declared.piece.Piece.{Piece}
use Rattle.record.specs.declared.call.CallKind.TheVariants.{Read}
use Rattle.record.specs.declared.call.Entry.{Entry}
use Rattle.record.specs.declared.stage.Stage.{Stage}
use Rattle.record.specs.declared.stage.Stage.TheVariants.{ReadNext, FetchAt, FinalizeAt}
use Rattle.record.specs.Fragments.{Code, IsCoded, IsFragment, IsValue}
use Rattle.record.specs.Journals.{entry_of, stage_tag}
use Rattle.record.specs.Legal.{first_stage, source_of}
use Rattle.record.specs.PhaseOrder.{begun_at, stage_after}
use Rattle.record.specs.Records.{Call, Object, layout_at, bank_at}
use Rattle.early_ends.specs.Held.{IsHeld}

-- an answer that a client was told: the index of its call, the step of the answer, and the value that a read returned
pub record Told : Type 0 where
  pub index : ℕ
  pub step : ℕ
  pub value : Option (List ℕ)

-- The history with the answers in place

-- the first of these answers to the call at this index, if there is one
abbrev pub answer_to : List Told → (index : ℕ) → Option Told
answer_to [] index = None
answer_to (answer ∷ answers) index = if answer.index == index then Some answer else answer_to answers index

-- the call as its client saw it: with this answer, if there is one
abbrev pub as_told : Option Told → Call → Call
as_told None call = call
as_told (Some answer) call = record call { answered = Some answer.step; settled = answer.value }

-- the entries of these calls, the first of which is at this index, with the answers in place
abbrev pub told_from : List Told → (index : ℕ) → List Call → List Entry
told_from told index [] = []
told_from told index (call ∷ calls) =
    entry_of call.id (as_told (answer_to told index) call) ∷ told_from told (suc index) calls

-- the history of the object as its clients saw it: the entries of its calls, with the answers in place
abbrev pub told_entries : Object → List Told → List Entry
told_entries object told = told_from told 0 object.calls

-- When an answer may be told

-- the call at this index made this phase, which was due at this stage; the call may have gone on since
pub record HasPhase (object : Object) (index : ℕ) (call : Call) (stage : Stage) (phase : Phase) : Type 0 where
  pub at : slice_get object.calls index ≡ Some call
  pub earlier : List Phase
  pub later : List Phase
  pub phases : call.phases ≡ earlier ++ phase ∷ later
  pub due_at : stage
      ≡ begun_at (stage_after call.kind call.id (first_stage call.kind (source_of object index)) earlier)
      phase.position

-- the last position of a read or a write that fetches or finalizes its tag
abbrev pub last_of : Stage → Option ℕ
last_of (FetchAt shown_at last tag) = Some last
last_of (FinalizeAt last tag) = Some last
last_of _ = None

-- the member told a piece of the tag, which is its fragment of the journal's value of the tag, and of this value
pub record HasToldPiece (fragment : Code) (object : Object) (position : ℕ) (tag : Tag) (value : List ℕ)
    (member : ℕ) : Type 0 where
  pub within : member < length (layout_at object position).members
  pub piece : Piece
  pub coded : IsCoded fragment object position member tag (Some piece)
  pub fits : IsFragment fragment (layout_at object position) member value piece

-- at least k members of a position told pieces of the tag, which are their fragments of this value
pub record HasToldPieces (fragment : Code) (object : Object) (position : ℕ) (tag : Tag) (value : List ℕ) : Type 0 where
  pub placed : position < length object.layouts
  pub members : List ℕ
  pub distinct : IsDistinct nat_eq members
  pub enough : (layout_at object position).k ≤ length members
  pub pieces : AllByRecursion (HasToldPiece fragment object position tag value) members

-- the answer returns what k pieces of the tag give that members of a position told
pub record ReturnsTold (fragment : Code) (object : Object) (told : Told) (tag : Tag) : Type 0 where
  pub position : ℕ
  pub value : List ℕ
  pub returned : told.value ≡ Some value
  pub is_value : IsValue value
  pub pieces : HasToldPieces fragment object position tag value

-- the call fetched or finalized its tag, complete or not, and the tag was held at its last position since then; a read
-- returns what k pieces give
pub record IsHeldCall (fragment : Code) (object : Object) (told : Told) (call : Call) (tag : Tag) : Type 0 where
  pub stage : Stage
  pub phase : Phase
  pub made : HasPhase object told.index call stage phase
  pub last : ℕ
  pub has_last : last_of stage ≡ Some last
  pub tagged : stage_tag stage ≡ Some tag
  pub held : IsHeld object last tag phase.start told.step
  pub returns : call.kind ≡ Read → ReturnsTold fragment object told tag

-- just after some step from `since` on, the bank had finalized no tag greater than this one
pub record HasNoGreater (bank : Bank) (tag : Tag) (since : ℕ) : Type 0 where
  pub step : ℕ
  pub from : since ≤ step
  pub none : (other : Tag) → HasFinalized bank other step → tag_lt tag other ≡ false

-- a quorum of members told its greatest finalized tags, each just after some step from `since` on, and none of these is
-- greater than this tag
pub record IsGreatestTold (object : Object) (position : ℕ) (tag : Tag) (since : ℕ) : Type 0 where
  pub members : List ℕ
  pub quorum : IsQuorum (layout_at object position) members
  pub each : AllByRecursion (λ member. HasNoGreater (bank_at object position member) tag since) members

-- a read asked the first position that counts, and each of a quorum told its greatest finalized tag: the greatest of
-- these was held there since the phase began, and k pieces of it that were told give the value returned
pub record IsToldRead (fragment : Code) (object : Object) (told : Told) (call : Call) (tag : Tag) : Type 0 where
  pub position : ℕ
  pub phase : Phase
  pub made : HasPhase object told.index call (ReadNext position position) phase
  pub reads : call.kind ≡ Read
  pub greatest : IsGreatestTold object position tag phase.start
  pub held : IsHeld object position tag phase.start told.step
  pub returns : ReturnsTold fragment object told tag

-- the answer may be told: the tag of its call was held, or it is a told read of a tag that was held
pub record IsTold (fragment : Code) (object : Object) (told : Told) : Type 0 where
  pub call : Call
  pub tag : Tag
  pub held : IsHeldCall fragment object told call tag ⊎ IsToldRead fragment object told call tag
