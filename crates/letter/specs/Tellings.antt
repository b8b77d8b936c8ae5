-- The contracts that docs/trusted.md lists do not depend on this file; other contracts and proofs do.
-- What a bank tells with its replies.
use Rattle.std.specs.Prelude.{◌≡◌, ◌⊎◌, Option, None}
use Rattle.piece.specs.declared.piece.Piece.{Piece}
use Rattle.bank.specs.Bank.{Bank, piece_of}
use Rattle.bank.specs.Pointer.{status_of}
use Rattle.bank.specs.Serve.{greatest_final}
use Rattle.letter.specs.declared.telling.Telling.{Telling}

-- what a bank tells: the status of its pointer, its greatest finalized tag, and the piece of this tag that it keeps
abbrev pub telling_of : Bank → Telling
telling_of bank = record {
  status = status_of bank.pointer;
  greatest = greatest_final bank;
  piece = piece_of bank (greatest_final bank);
}

-- the first telling says no more than the second: it may leave out the piece
pub record SaysNoMore (telling whole : Telling) : Type 0 where
  pub status : telling.status ≡ whole.status
  pub greatest : telling.greatest ≡ whole.greatest
  pub piece : (telling.piece ≡ None) ⊎ (telling.piece ≡ whole.piece)
