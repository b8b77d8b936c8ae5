-- Which values tags have according to the history of the calls, and that nodes keep and send fragments of these values.
use Rattle.std.specs.Prelude.{◌≡◌, ◌<◌, ◌⊎◌, ℕ, List, [], Option, None, Some, IsSome, slice_get}
use Rattle.std.specs.List.{AllByRecursion}
use Rattle.tag.specs.declared.tag.Tag.{Tag}
use Rattle.tag.specs.Tag.{opening_tag}
use Rattle.layout.specs.Layout.{Layout}
use Rattle.piece.specs.declared.piece.Piece.{Piece}
use Rattle.bank.specs.Bank.{piece_of}
use Rattle.record.specs.declared.call.Entry.{Entry}
use Rattle.record.specs.declared.call.Operation.TheVariants as operation
use Rattle.record.specs.Fragments.{Code, IsFragment, body_piece, body_tag}
use Rattle.record.specs.Journals.{entry_value, operation_of}
use Rattle.open_calls.specs.OpenCalls.{NodeCall}
use Rattle.letter.specs.declared.letter.Letter.{Letter}
use Rattle.letter.specs.declared.telling.Telling.{Telling}
use Rattle.local_object.specs.declared.kept_bank.KeptBank.{KeptBank}
use Rattle.local_object.specs.declared.kept_bank.KeptBank.TheVariants as kept
use Rattle.local_object.specs.Ended.{early_value_of}
use Rattle.local_object.specs.Local.{bank_here, layout_here}
use Rattle.refinement.specs.Systems.{System, WasPosted}

-- a write of the history with this id has this value
pub record IsWriteIn (history : List Entry) (id : ℕ) (value : List ℕ) : Type 0 where
  pub place : ℕ
  pub entry : Entry
  pub at : slice_get history place ≡ Some entry
  pub same_id : entry.call ≡ id
  pub kind : entry.kind ≡ operation.Write
  pub writes : entry.value ≡ Some value

-- the value of a tag: the empty value for the opening tag; for a tag with a greater number, the value of the write with
-- the tag's id
abbrev pub IsValueIn : List Entry → Tag → List ℕ → Type 0
IsValueIn history tag value =
    ((tag ≡ opening_tag) × (value ≡ [])) ⊎ ((0 < tag.number) × IsWriteIn history tag.call value)

-- the piece is the member's fragment of the tag's value
abbrev pub IsPieceIn : Code → List Entry → Layout → (member : ℕ) → Tag → Piece → Type 0
IsPieceIn fragment history layout member tag piece =
    (value : List ℕ) × IsValueIn history tag value × IsFragment fragment layout member value piece

-- the piece of a tag in a bank that a node keeps, if there is one; a closed bank has none
abbrev pub kept_piece : KeptBank → Tag → Option Piece
kept_piece (kept.Open bank) tag = piece_of bank tag
kept_piece (kept.Closed closed) tag = None

-- a tag has one value; each piece in a bank that a node keeps, and each piece in a letter ever sent or told by one, is
-- its member's fragment of its tag's value; and each answered read of the history returned the value of a tag
pub record KeepsValuesIn (fragment : Code) (system : System) : Type 0 where
  pub unique : (tag : Tag) (v w : List ℕ) → IsValueIn system.history tag v → IsValueIn system.history tag w → v ≡ w
  pub banks : (node position member : ℕ) (layout : Layout) (tag : Tag) (piece : Piece) →
      layout_here (system.objects node) position ≡ Some layout → slice_get layout.members member ≡ Some node →
      kept_piece (bank_here (system.objects node) position member) tag ≡ Some piece →
      IsPieceIn fragment system.history layout member tag piece
  pub letters : (letter : Letter) (tag : Tag) (piece : Piece) → WasPosted system letter →
      body_tag letter.message.body ≡ Some tag → body_piece letter.message.body ≡ Some piece →
      IsPieceIn fragment system.history letter.layout letter.message.member tag piece
  pub told : (letter : Letter) (telling : Telling) (piece : Piece) → WasPosted system letter →
      letter.told ≡ Some telling → telling.piece ≡ Some piece →
      IsPieceIn fragment system.history letter.layout letter.message.member telling.greatest piece
  pub reads : (place : ℕ) (entry : Entry) → slice_get system.history place ≡ Some entry →
      entry.kind ≡ operation.Read → IsSome entry.answered →
      (tag : Tag) × (value : List ℕ) × (entry.value ≡ Some value) × IsValueIn system.history tag value

-- what the client of a call is told when it is answered: a read's settled value, and a write's own
abbrev pub told_value : NodeCall → Option (List ℕ)
told_value call = entry_value call.kind (Some 0) call.settled

-- the history has the answer of the call at this event, with what the client is told; and each entry with its id has
-- this answer
pub record HasAnswer (history : List Entry) (call : NodeCall) (now : ℕ) : Type 0 where
  pub place : ℕ
  pub entry : Entry
  pub at : slice_get history place ≡ Some entry
  pub same_id : entry.call ≡ call.id
  pub kind : entry.kind ≡ operation_of call.kind
  pub answered : entry.answered ≡ Some now
  pub value : entry.value ≡ told_value call
  pub each : AllByRecursion
      (λ other. other.call ≡ call.id → (other.answered ≡ Some now) × (other.value ≡ told_value call)) history

-- the history has this early answer of the call at this event, with what the client is told; and each entry with its id
-- has this answer
pub record HasEarlyAnswer (history : List Entry) (call : NodeCall) (returned : Option (List ℕ)) (now : ℕ) : Type 0 where
  pub place : ℕ
  pub entry : Entry
  pub at : slice_get history place ≡ Some entry
  pub same_id : entry.call ≡ call.id
  pub kind : entry.kind ≡ operation_of call.kind
  pub answered : entry.answered ≡ Some now
  pub value : entry.value ≡ early_value_of call.kind returned
  pub each : AllByRecursion
      (λ other. other.call ≡ call.id → (other.answered ≡ Some now) × (other.value ≡ early_value_of call.kind returned))
      history
