-- The contracts that docs/trusted.md lists do not depend on this file; other contracts and proofs do.
-- The pieces that a call sends.
use Rattle.std.specs.Prelude.{◌≡◌, ◌<◌, ℕ, Option, Some, None}
use Rattle.encoder.specs.Fragment.{piece_at_point}
use Rattle.encoder.specs.Coded.{Coding}
use Rattle.piece.specs.declared.piece.Piece.{Piece}
use Rattle.bank.specs.Bank.{empty_piece}
use Rattle.bank.specs.declared.kind.Kind.{Kind}
use Rattle.bank.specs.declared.kind.Kind.TheVariants.{PreWrite}

-- the piece of a member: of the encoded value if there is one, and otherwise of the empty value
abbrev pub piece_from : Option Coding → (member : ℕ) → Piece
piece_from None member = empty_piece member
piece_from (Some coded) member = piece_at_point coded.value coded.k member

-- if a phase of this kind sends pieces, there is an encoded value with a piece for each of this many members
abbrev pub HavePieces : Kind → (members : ℕ) → Option Coding → Type 0
HavePieces (PreWrite tag) members None = ⊥
HavePieces (PreWrite tag) members (Some coded) = coded.n ≡ members
HavePieces _ members coded = Unit {0}

-- if a request of this kind carries a piece, there is an encoded value with a piece for the member
abbrev pub HavePieceOf : Kind → (member : ℕ) → Option Coding → Type 0
HavePieceOf (PreWrite tag) member None = ⊥
HavePieceOf (PreWrite tag) member (Some coded) = member < coded.n
HavePieceOf _ member coded = Unit {0}
