-- The journal, which gives each tag its value, and the entries of an object's calls.
use Rattle.std.specs.Prelude.{◌≡◌, ℕ, ◌⊎◌, List, [], map, Option, Some, None, slice_get}
use Rattle.tag.specs.declared.tag.Tag.{Tag}
use Rattle.tag.specs.Tag.{opening_tag}
use Rattle.record.specs.declared.call.CallKind.{CallKind}
use Rattle.record.specs.Records.{Call, Object}
use Rattle.record.specs.declared.call.CallKind.TheVariants.{Read, Write, Move}
use Rattle.record.specs.declared.stage.Stage.{Stage}
use Rattle.record.specs.declared.stage.Stage.TheVariants.{ReadBegin, ReadNext, ReadSpread, QueryFrom, FetchAt}
use Rattle.record.specs.declared.stage.Stage.TheVariants.{PreWriteAt, FinalizeAt, AgainNext, AgainSpread}
use Rattle.record.specs.declared.stage.Stage.TheVariants.{MoveSpread, MoveQuery, MoveFetch, MovePreWrite}
use Rattle.record.specs.declared.stage.Stage.TheVariants.{MoveFinalize, MoveFinal, Ended, Moved}
use Rattle.record.specs.Legal.{stage_of}
use Rattle.record.specs.declared.call.Operation.{Operation}
use Rattle.record.specs.declared.call.Entry.{Entry}
use Rattle.record.specs.declared.call.Operation.TheVariants as operation

-- the tag of a call at this stage, if it has one
abbrev pub stage_tag : Stage → Option Tag
stage_tag ReadBegin = None
stage_tag (ReadNext position finalized) = None
stage_tag (ReadSpread position finalized status) = None
stage_tag (QueryFrom position last greatest shown_at) = None
stage_tag (FetchAt shown_at last tag) = Some tag
stage_tag (PreWriteAt last tag) = Some tag
stage_tag (FinalizeAt last tag) = Some tag
stage_tag (AgainNext last position tag) = Some tag
stage_tag (AgainSpread last position tag status) = Some tag
stage_tag (MoveSpread position) = None
stage_tag (MoveQuery position) = None
stage_tag (MoveFetch position tag) = Some tag
stage_tag (MovePreWrite position tag) = Some tag
stage_tag (MoveFinalize position tag) = Some tag
stage_tag (MoveFinal position tag) = Some tag
stage_tag (Ended last tag) = Some tag
stage_tag (Moved position tag) = Some tag

-- the tag of the call at this index, once its queries are complete
abbrev pub tag_of : Object → (index : ℕ) → Call → Option Tag
tag_of object index call = stage_tag (stage_of object index call)

-- a write of the object has this tag and value
pub record IsWritten (object : Object) (tag : Tag) (value : List ℕ) : Type 0 where
  pub index : ℕ
  pub call : Call
  pub at : slice_get object.calls index ≡ Some call
  pub kind : call.kind ≡ Write value
  pub tagged : tag_of object index call ≡ Some tag

-- the journal gives the tag this value: the opening tag has the empty value, and a write's tag the write's value
abbrev pub IsJournaled : Object → Tag → List ℕ → Type 0
IsJournaled object tag value = ((tag ≡ opening_tag) × (value ≡ [])) ⊎ IsWritten object tag value

-- each answered read returns the journal's value of its tag
abbrev pub ReadsJournaled : Object → Type 0
ReadsJournaled object = (index : ℕ) (call : Call) (step : ℕ) → slice_get object.calls index ≡ Some call →
    call.kind ≡ Read → call.answered ≡ Some step →
    (value : List ℕ) × (tag : Tag) × (call.settled ≡ Some value) × (tag_of object index call ≡ Some tag)
    × IsJournaled object tag value

-- what a call returned: its settled value once it is answered, and nothing before
abbrev pub returned : Option ℕ → Option (List ℕ) → Option (List ℕ)
returned None settled = None
returned (Some step) settled = settled

-- the kind of a call without its value, as an entry has it
abbrev pub operation_of : CallKind → Operation
operation_of Read = operation.Read
operation_of (Write value) = operation.Write
operation_of Move = operation.Move

-- the value of an entry: what an answered read returned, or what a write writes
abbrev pub entry_value : CallKind → Option ℕ → Option (List ℕ) → Option (List ℕ)
entry_value Read answered settled = returned answered settled
entry_value (Write value) answered settled = Some value
entry_value Move answered settled = None

-- the entry of a call with this id
abbrev pub entry_of : (id : ℕ) → Call → Entry
entry_of id call = record {
  call = id;
  kind = operation_of call.kind;
  called = call.called;
  answered = call.answered;
  value = entry_value call.kind call.answered call.settled;
}

-- the history of the object: one entry for each call, in the order of their numbers, which names the call by its id
abbrev pub entries : Object → List Entry
entries object = map (λ call. entry_of call.id call) object.calls
