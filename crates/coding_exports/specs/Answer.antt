-- The contracts that docs/trusted.md lists do not depend on this file; other contracts and proofs do.
-- What an export answers and writes.
use Rattle.std.specs.Prelude.{◌≡◌, ℕ, List, length, Option, Some, None, ◌==◌, nat_lt, if◌then◌else◌}
use Rattle.tag.specs.declared.limits.TheConstants.{LONGEST_VALUE}
use Rattle.tag.specs.Refusal.{number_of}
use Rattle.tag.specs.declared.refusal.Refusal.{Refusal}
use Rattle.tag.specs.declared.refusal.Refusal.TheVariants.{BadLayout, TooLong}
use Rattle.piece.specs.declared.piece.Piece.{Piece}
use Rattle.decoder.specs.Pieces.{AreLawful, IsInterpolated}
use Rattle.coding_exports.specs.declared.answer.TheConstants.{BAD_BUFFER}

-- the answer if this is the cause of refusal: its number, and 0 if there is none
abbrev pub answer_by_cause : Option Refusal → ℕ
answer_by_cause None = 0
answer_by_cause (Some refusal) = number_of refusal

-- the answer of a call that writes so many bytes to a buffer of this length: first the cause of refusal, then the
-- number of a buffer of another length, and 0 if nothing is wrong
abbrev pub answer_into : Option Refusal → ℕ → ℕ → ℕ
answer_into (Some refusal) bytes len = number_of refusal
answer_into None bytes len = if len == bytes then 0 else BAD_BUFFER

-- why a value of len bytes has no fragments for k: none if it has
abbrev pub fragment_cause : ℕ → ℕ → Option Refusal
fragment_cause k len =
    if k == 0 then Some BadLayout else (if nat_lt LONGEST_VALUE len then Some TooLong else None)

-- what the room holds after the bytes are written to it, which are written only if it has their length
abbrev pub written : List ℕ → List ℕ → List ℕ
written bytes room = if length room == length bytes then bytes else room

-- the pieces are lawful, and the value whose fragments they are was written to the room
pub record WritesDecoded (k len : ℕ) (pieces : List Piece) (old new : List ℕ) : Type 0 where
  pub lawful : AreLawful k len pieces
  pub value : List ℕ
  pub interpolated : IsInterpolated k len pieces value
  pub writes : new ≡ written value old
