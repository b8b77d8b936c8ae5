-- The contracts that docs/trusted.md lists do not depend on this file; other contracts and proofs do.
-- What is promised for each world that nodes can reach. These statements do not mention the record.
use Rattle.std.specs.Prelude.{IsSome, slice_get, ◌≡◌, ◌<◌, ℕ, List, Some, ◌⊎◌, []}
use Rattle.tag.specs.declared.tag.Tag.{Tag}
use Rattle.tag.specs.Tag.{opening_tag}
use Rattle.layout.specs.Layout.{IsLawful}
use Rattle.piece.specs.declared.piece.Piece.{Piece}
use Rattle.bank.specs.Bank.{piece_of}
use Rattle.mail.specs.declared.message.Message.{Message}
use Rattle.record.specs.Fragments.{Code, IsCode, IsFragment, body_tag, body_piece}
use Rattle.record.specs.declared.call.Entry.{Entry}
use Rattle.record.specs.declared.call.Operation.TheVariants as operation
use Rattle.atomicity.specs.Atomic.{IsAtomic}
use Rattle.network.specs.Worlds.{ClusterFile, World, opened_world, known_layout, member_bank}
use Rattle.network.specs.Events.{Event, world_after}
use Rattle.network.specs.Premises.{IsOneFile, MayHappenInTurn, WasSent}

-- the world is reached from an opened one, whose nodes have one lawful cluster file, by events that may happen and meet
-- the premises
pub record IsReached (fragment : Code) (world : World) : Type 0 where
  pub files : (node : ℕ) → ClusterFile
  pub one : IsOneFile files
  pub lawful : IsLawful (files 0).first
  pub events : List Event
  pub may : MayHappenInTurn fragment events (opened_world files)
  pub result : world_after fragment events (opened_world files) ≡ world

-- the history of each world that is reached is atomic
abbrev pub WorldsAreAtomic : Type 0
WorldsAreAtomic = (fragment : Code) (world : World) → IsCode fragment → IsReached fragment world →
    IsAtomic world.history

-- a write of the history with this id has this value
pub record IsWriteOf (world : World) (id : ℕ) (value : List ℕ) : Type 0 where
  pub place : ℕ
  pub entry : Entry
  pub at : slice_get world.history place ≡ Some entry
  pub same_id : entry.call ≡ id
  pub kind : entry.kind ≡ operation.Write
  pub writes : entry.value ≡ Some value

-- the value of a tag: the empty value for the opening tag, and for a tag with a greater number that of the write with
-- the tag's id
abbrev pub IsValueOf : World → Tag → List ℕ → Type 0
IsValueOf world tag value =
    ((tag ≡ opening_tag) × (value ≡ [])) ⊎ ((0 < tag.number) × IsWriteOf world tag.call value)

-- the piece is the member's fragment of the tag's value, by the layout of the position that the node knows
abbrev pub IsPieceOf : Code → World → (node position member : ℕ) → Tag → Piece → Type 0
IsPieceOf fragment world node position member tag piece =
    (value : List ℕ) × IsValueOf world tag value
    × IsFragment fragment (known_layout world node position) member value piece

-- a tag has one value; each piece in a bank or in a message ever sent is its member's fragment of its tag's value,
-- whichever node looks; and each answered read of the history returned the value of a tag
pub record KeepsValues (fragment : Code) (world : World) : Type 0 where
  pub unique : (tag : Tag) (v w : List ℕ) → IsValueOf world tag v → IsValueOf world tag w → v ≡ w
  pub banks : (node position member : ℕ) (tag : Tag) (piece : Piece) →
      piece_of (member_bank world position member) tag ≡ Some piece →
      IsPieceOf fragment world node position member tag piece
  pub messages : (node : ℕ) (message : Message) (tag : Tag) (piece : Piece) → WasSent world message →
      body_tag message.body ≡ Some tag → body_piece message.body ≡ Some piece →
      IsPieceOf fragment world node message.position message.member tag piece
  pub reads : (place : ℕ) (entry : Entry) → slice_get world.history place ≡ Some entry → entry.kind ≡ operation.Read →
      IsSome entry.answered → (tag : Tag) × (value : List ℕ) × (entry.value ≡ Some value) × IsValueOf world tag value

-- each world that is reached keeps the values of its tags
abbrev pub WorldsKeepValues : Type 0
WorldsKeepValues = (fragment : Code) (world : World) → IsCode fragment → IsReached fragment world →
    KeepsValues fragment world
