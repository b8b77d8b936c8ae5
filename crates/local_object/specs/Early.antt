-- When a call ends early, by what members told its current phase, and with which value.
use Rattle.std.specs.Prelude.{◌≡◌, ◌⊎◌, ℕ, ◌+◌, ◌==◌, ◌&&◌, ◌<◌, ◌≤◌, not, Bool, true, false, nat_le, nat_lt, nat_eq}
use Rattle.std.specs.Prelude.{List, length, Option, Some, slice_get}
use Rattle.std.specs.List.{AllByRecursion, IsDistinct, count_by}
use Rattle.tag.specs.declared.tag.Tag.{Tag}
use Rattle.tag.specs.Tag.{opening_tag}
use Rattle.layout.specs.Layout.{Layout, quorum_of}
use Rattle.piece.specs.declared.piece.Piece.{Piece}
use Rattle.bank.specs.declared.kind.Kind.{Kind}
use Rattle.bank.specs.declared.kind.Kind.TheVariants.{Fetch, Finalize}
use Rattle.record.specs.declared.call.CallKind.TheVariants.{Read}
use Rattle.record.specs.declared.stage.Stage.{Stage}
use Rattle.record.specs.declared.stage.Stage.TheVariants.{FetchAt, FinalizeAt, ReadNext}
use Rattle.record.specs.Fragments.{Code, HasPieces, IsFetch, IsFragment, IsValue}
use Rattle.record.specs.Legal.{is_move}
use Rattle.record.specs.Records.{Object, layout_at}
use Rattle.call.specs.Call.{OpenCall as Machine}
use Rattle.open_calls.specs.OpenCalls.{NodeCall}
use Rattle.local_object.specs.declared.report.Report.{Report}
use Rattle.local_object.specs.Local.{LocalObject, layout_here}
use Rattle.local_object.specs.Outcomes.{is_read}
use Rattle.local_object.specs.Reports.{greatest_told, tells_held, tells_no_greater, tells_unset}

-- Tests

-- whether a phase of this kind has its members finalize a tag
abbrev pub is_finalizing : Kind → Bool
is_finalizing (Finalize tag) = true
is_finalizing (Fetch tag) = true
is_finalizing _ = false

-- whether a call at this stage fetches or finalizes its tag, and this is its last position
abbrev pub is_last_at : Stage → (position : ℕ) → Bool
is_last_at (FetchAt shown_at last tag) position = last == position
is_last_at (FinalizeAt last tag) position = last == position
is_last_at _ position = false

-- whether a call at this stage asks for the pointer of the first position that counts
abbrev pub is_first_counting : Stage → Bool
is_first_counting (ReadNext position finalized) = position == finalized
is_first_counting _ = false

-- whether this many members of a layout are more than n - k
abbrev pub exceeds_rest : Layout → (count : ℕ) → Bool
exceeds_rest layout count = nat_lt (length layout.members) (layout.k + count)

-- whether a call may end since its tag is held: it is a read or a write that asks the members of its last position to
-- fetch or to finalize its tag, and more than n - k of them told an unset pointer
abbrev pub ends_held : Machine → Layout → List Report → Bool
ends_held call layout reports =
    not (is_move call.kind) && (is_finalizing call.phase.kind && (is_last_at call.stage call.phase.position
    && exceeds_rest layout (count_by (tells_unset call.id call.phase.number) reports)))

-- the greatest tag that the current phase of a call was told
abbrev pub greatest_of : Machine → List Report → Tag
greatest_of call reports = greatest_told call.id call.phase.number reports opening_tag

-- whether a quorum told this tag or smaller ones, and more than n - k members that they hold it
abbrev pub is_held_by_quorum : Machine → Layout → List Report → Tag → Bool
is_held_by_quorum call layout reports tag =
    nat_le (quorum_of layout) (count_by (tells_no_greater tag call.id call.phase.number) reports)
    && exceeds_rest layout (count_by (tells_held tag call.id call.phase.number) reports)

-- whether a read may end at once: it asks for the pointers of the first position that counts, a quorum told their
-- greatest finalized tags, and more than n - k members that they hold the greatest of these
abbrev pub ends_at_once : Machine → Layout → List Report → Bool
ends_at_once call layout reports =
    is_read call.kind && (is_first_counting call.stage
    && is_held_by_quorum call layout reports (greatest_of call reports))

-- What is enough for an early end

-- a member told this phase of a call its piece of the tag, which is its fragment of the value
pub record HasToldPieceHere (fragment : Code) (local : LocalObject) (call : NodeCall) (layout : Layout) (tag : Tag)
    (value : List ℕ) (member : ℕ) : Type 0 where
  pub place : ℕ
  pub report : Report
  pub at : slice_get local.reports place ≡ Some report
  pub same_call : report.call ≡ call.id
  pub same_phase : report.phase ≡ call.phase.number
  pub same_member : report.member ≡ member
  pub greatest : report.telling.greatest ≡ tag
  pub piece : Piece
  pub told : report.telling.piece ≡ Some piece
  pub fits : IsFragment fragment layout member value piece

-- k members told this phase of a call their pieces of the tag, and these give the value
pub record HaveToldValueHere (fragment : Code) (local : LocalObject) (call : NodeCall) (layout : Layout) (tag : Tag)
    (value : List ℕ) : Type 0 where
  pub members : List ℕ
  pub distinct : IsDistinct nat_eq members
  pub enough : layout.k ≤ length members
  pub each : AllByRecursion (HasToldPieceHere fragment local call layout tag value) members
  pub is_value : IsValue value

-- the read has this value: it settled the value, or its current phase is a fetch that took k pieces of the value
abbrev pub HasValueHere : Code → NodeCall → Layout → (value : List ℕ) → Type 0
HasValueHere fragment call layout value = (call.settled ≡ Some value)
    ⊎ (IsFetch call.phase.kind × IsValue value
    × ((object : Object) → layout_at object call.phase.position ≡ layout → HasPieces fragment object call.phase value))

-- a read or a write asks the members of its last position to finalize or to fetch its tag, and more than n - k of them
-- told an unset pointer; a read returns its value
pub record EndsHeldHere (fragment : Code) (local : LocalObject) (call : NodeCall) (returned : Option (List ℕ))
    : Type 0 where
  pub client : is_move call.kind ≡ false
  pub last : is_last_at call.stage call.phase.position ≡ true
  pub puts : is_finalizing call.phase.kind ≡ true
  pub layout : Layout
  pub known : layout_here local call.phase.position ≡ Some layout
  pub held : length layout.members < layout.k + count_by (tells_unset call.id call.phase.number) local.reports
  pub returns : call.kind ≡ Read →
      (value : List ℕ) × (returned ≡ Some value) × HasValueHere fragment call layout value

-- a read asks the first position that counts: a quorum told the tag or smaller ones, more than n - k members told that
-- they hold it, and the read returns what k pieces of the tag give that members told
pub record EndsAtOnceHere (fragment : Code) (local : LocalObject) (call : NodeCall) (returned : Option (List ℕ))
    : Type 0 where
  pub reads : call.kind ≡ Read
  pub first : is_first_counting call.stage ≡ true
  pub layout : Layout
  pub known : layout_here local call.phase.position ≡ Some layout
  pub tag : Tag
  pub greatest : quorum_of layout ≤ count_by (tells_no_greater tag call.id call.phase.number) local.reports
  pub held : length layout.members < layout.k + count_by (tells_held tag call.id call.phase.number) local.reports
  pub value : List ℕ
  pub is_returned : returned ≡ Some value
  pub pieces : HaveToldValueHere fragment local call layout tag value
