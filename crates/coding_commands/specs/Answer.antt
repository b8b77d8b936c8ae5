-- The contracts that docs/trusted.md lists do not depend on this file; other contracts and proofs do.
-- What answers a request, and why one is refused.
use Rattle.std.specs.Prelude.{◌≡◌, ◌⊎◌, ℕ, List, None, Some, length}
use Rattle.tag.specs.declared.refusal.Refusal.{Refusal}
use Rattle.tag.specs.declared.refusal.Refusal.TheVariants.{BadPieces}
use Rattle.encoder.specs.Coded.{encode_cause}
use Rattle.piece.specs.declared.piece.Piece.{Piece}
use Rattle.decoder.specs.Pieces.{AreLawful, HaveNoValue, IsInterpolated}
use Rattle.coding_commands.specs.declared.request.CodingRequest.{CodingRequest}
use Rattle.coding_commands.specs.declared.request.CodingRequest.TheVariants as request
use Rattle.coding_commands.specs.declared.output.Output.{Output}
use Rattle.coding_commands.specs.declared.output.Output.TheVariants as output

-- the pieces are lawful, and this is the only value that they interpolate
pub record IsDecodedValue (k len : ℕ) (pieces : List Piece) (value : List ℕ) : Type 0 where
  pub lawful : AreLawful k len pieces
  pub interpolated : IsInterpolated k len pieces value
  pub only : (v : List ℕ) → IsInterpolated k len pieces v → v ≡ value

-- the output answers the request: the fragments of its value, which can be encoded, or the value of its pieces
abbrev pub IsAnswerTo : CodingRequest → Output → Type 0
IsAnswerTo (request.Fragments k n value) (output.Fragments coded) =
    (encode_cause k n (length value) ≡ None) × (coded ≡ record { k = k; n = n; value = value })
IsAnswerTo (request.Fragments k n value) (output.Value decoded) = ⊥
IsAnswerTo (request.Decode k len pieces) (output.Fragments coded) = ⊥
IsAnswerTo (request.Decode k len pieces) (output.Value decoded) = IsDecodedValue k len pieces.items decoded.value

-- this refusal applies to the request
abbrev pub IsRefusedFor : CodingRequest → Refusal → Type 0
IsRefusedFor (request.Fragments k n value) refusal = encode_cause k n (length value) ≡ Some refusal
IsRefusedFor (request.Decode k len pieces) refusal =
    (refusal ≡ BadPieces) × ((¬ AreLawful k len pieces.items) ⊎ HaveNoValue k len pieces.items)
