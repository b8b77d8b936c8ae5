-- A fetch that lacks pieces, and the writes that overlap the read which makes it.
use Rattle.std.specs.Prelude.{◌≡◌, ℕ, zero, suc, ◌+◌, ◌<◌, ◌≤◌, nat_eq, if◌then◌else◌}
use Rattle.std.specs.Prelude.{List, [], ◌∷◌, length, Some, true, slice_get}
use Rattle.std.specs.List.{AllByRecursion, IsDistinct}
use Rattle.tag.specs.declared.tag.Tag.{Tag}
use Rattle.tag.specs.Tag.{IsBelow}
use Rattle.bank.specs.declared.kind.Kind.TheVariants.{Fetch}
use Rattle.mail.specs.Phase.{Phase, lacks_pieces}
use Rattle.record.specs.declared.call.CallKind.TheVariants.{Read, Write}
use Rattle.record.specs.Records.{Call, Object}
use Rattle.record.specs.Journals.{tag_of}
use Rattle.record.specs.Wants.{is_fetch}

-- the step at which the first of these phases begins, or `since` if there is none
abbrev pub first_start : (since : ℕ) → List Phase → ℕ
first_start since [] = since
first_start since (phase ∷ phases) = phase.start

-- the start of the phase after the last fetch before this place, or `since` if there is no such fetch
abbrev pub last_beginning : (since : ℕ) → List Phase → (place : ℕ) → ℕ
last_beginning since [] place = since
last_beginning since (phase ∷ phases) zero = since
last_beginning since (phase ∷ phases) (suc place) =
    last_beginning (if is_fetch phase.kind then first_start since phases else since) phases place

-- the call at this index is a write with a greater tag that was called before `until` and not answered before `since`
pub record IsOverlapping (object : Object) (tag : Tag) (since until : ℕ) (index : ℕ) : Type 0 where
  pub call : Call
  pub at : slice_get object.calls index ≡ Some call
  pub value : List ℕ
  pub kind : call.kind ≡ Write value
  pub greater : Tag
  pub tagged : tag_of object index call ≡ Some greater
  pub above : IsBelow tag greater
  pub called : call.called < until
  pub unanswered : (step : ℕ) → call.answered ≡ Some step → since ≤ step

-- at least `count` writes overlap, as `IsOverlapping` defines it
pub record AreOverlapping (object : Object) (tag : Tag) (since until count : ℕ) : Type 0 where
  pub writes : List ℕ
  pub distinct : IsDistinct nat_eq writes
  pub enough : count ≤ length writes
  pub each : AllByRecursion (IsOverlapping object tag since until) writes

-- at most `count` writes overlap, as `IsOverlapping` defines it
abbrev pub AreNoMore : Object → Tag → (since until count : ℕ) → Type 0
AreNoMore object tag since until count = (writes : List ℕ) → IsDistinct nat_eq writes →
    AllByRecursion (IsOverlapping object tag since until) writes → length writes ≤ count

-- the phase at this place of the call is a read's fetch of the tag, which was complete at step `end` and lacks pieces
pub record IsLackingFetch (object : Object) (index place : ℕ) (call : Call) (phase : Phase) (tag : Tag)
    (end : ℕ) : Type 0 where
  pub at : slice_get object.calls index ≡ Some call
  pub kind : call.kind ≡ Read
  pub within : slice_get call.phases place ≡ Some phase
  pub fetch : phase.kind ≡ Fetch tag
  pub complete : phase.end ≡ Some end
  pub lacks : lacks_pieces phase ≡ true

-- the object has a delta, and at least delta + 1 writes overlap the read, from its last beginning to the fetch's end
pub record IsOverlapped (object : Object) (call : Call) (place : ℕ) (tag : Tag) (end : ℕ) : Type 0 where
  pub delta : ℕ
  pub collects : object.delta ≡ Some delta
  pub overlapping : AreOverlapping object tag (last_beginning call.called call.phases place) end (delta + 1)
